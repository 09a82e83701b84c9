-- The ranges of the numbers that are handed in, in micrometres but for an edge's factors. Assumes nothing.
--     within b z                z lies from −b to b
--     each P t                  each of t's three passes P
--     present P o               o passes P, where there is one
--     each_within b t           each of t's three lies from −b to b
--     present_within b o        so does o, where there is one
--     position_range            of a position's coordinates, and of a box's limits
--     centre_range              of the coordinates of an arc's centre
--     factor_range, edge_range  of an edge's factors, and of its limit
use Rattle.std.specs.Prelude.{ℕ, Bool, true, ◌&&◌, ℤ, pos, neg_ℤ, Some, None, Option, int_le}
use Rattle.motions.specs.declared.axes.Axes.{Axes}

abbrev pub within : ℕ → ℤ → Bool
within b z = int_le (neg_ℤ (pos b)) z && int_le z (pos b)

abbrev pub each : {A : Type 0} → (A → Bool) → Axes A → Bool
each P t = P t.x && (P t.y && P t.z)

abbrev pub present : {A : Type 0} → (A → Bool) → Option A → Bool
present P None = true
present P (Some a) = P a

abbrev pub each_within : ℕ → Axes ℤ → Bool
each_within b t = each (within b) t

abbrev pub present_within : ℕ → Option ℤ → Bool
present_within b o = present (within b) o

abbrev pub position_range : ℕ
position_range = 2000000

abbrev pub centre_range : ℕ
centre_range = 4000000

abbrev pub factor_range : ℕ
factor_range = 100

abbrev pub edge_range : ℕ
edge_range = 1000000000
