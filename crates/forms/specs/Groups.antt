-- The G functions of a line: at most one of each group. Assumes nothing.
--     Group                  the groups; `none` is that of the functions that may not stand among words
--     group_of g             the group of the function g
--     interpolation_of g, plane_of g, measure_of g, slot_of g   what a G function of its group stands for
--     interpolation_number i, plane_number p, measure_number m, slot_number s   the function that stands for i, p, m or s
--     once o b               b where o holds nothing yet, and None where it does; `once_set` is the same of a mark that is set
--     with_g g s             s with g as well, or None where its group has one already, or there is no group
--     no_modal s, no_flag s  no function that holds on for the next lines, or none of the others, stands in s
--     no_group               no function at all
use Rattle.std.specs.Prelude.{ℕ, Bool, true, false, cond, not, ◌&&◌, ◌||◌, is_none, Some, None, Option, ◌==◌}
use Rattle.std.specs.Option.{unwrap_or}
use Rattle.lexer.specs.Digits.{within}
use Rattle.motions.specs.Axes.{plane_of as chosen}
use Rattle.motions.specs.declared.axes.Plane.{Plane}
use Rattle.motions.specs.declared.axes.Plane.TheVariants.{XY, ZX, YZ}
use Rattle.motions.specs.declared.row.Turn.TheVariants.{Counterclockwise, Clockwise}
use Rattle.forms.specs.declared.said.Groups.{Groups}
use Rattle.forms.specs.declared.said.Interpolation.{Interpolation}
use Rattle.forms.specs.declared.said.Interpolation.TheVariants.{Rapid, Line, Arc}
use Rattle.forms.specs.declared.said.Measure.{Measure}
use Rattle.forms.specs.declared.said.Measure.TheVariants.{Absolute, Incremental}
use Rattle.forms.specs.declared.said.Slot.{Slot}
use Rattle.forms.specs.declared.said.Slot.TheVariants.{G500, G54, G55, G56, G57}

pub data Group : Type 0 where
  motion : Group
  plane : Group
  measure : Group
  zero : Group
  g53 : Group
  g40 : Group
  g60 : Group
  g64 : Group
  g71 : Group
  g94 : Group
  none : Group

abbrev pub group_of : ℕ → Group
group_of g =
    cond (within 0 3 g) motion
    (cond (within 17 19 g) plane
    (cond (within 90 91 g) measure
    (cond (within 54 57 g || g == 500) zero
    (cond (g == 53) g53
    (cond (g == 40) g40
    (cond (g == 60) g60
    (cond (g == 64) g64
    (cond (g == 71) g71
    (cond (g == 94) g94 none)))))))))

abbrev pub interpolation_of : ℕ → Interpolation
interpolation_of g = cond (g == 0) Rapid (cond (g == 1) Line (cond (g == 2) (Arc Clockwise) (Arc Counterclockwise)))

abbrev pub plane_of : ℕ → Plane
plane_of g = unwrap_or (chosen g) YZ

abbrev pub measure_of : ℕ → Measure
measure_of g = cond (g == 91) Incremental Absolute

abbrev pub slot_of : ℕ → Slot
slot_of g = cond (g == 54) G54 (cond (g == 55) G55 (cond (g == 56) G56 (cond (g == 57) G57 G500)))

abbrev pub interpolation_number : Interpolation → ℕ
interpolation_number Rapid = 0
interpolation_number Line = 1
interpolation_number (Arc Clockwise) = 2
interpolation_number (Arc Counterclockwise) = 3

abbrev pub plane_number : Plane → ℕ
plane_number XY = 17
plane_number ZX = 18
plane_number YZ = 19

abbrev pub measure_number : Measure → ℕ
measure_number Absolute = 90
measure_number Incremental = 91

abbrev pub slot_number : Slot → ℕ
slot_number G500 = 500
slot_number G54 = 54
slot_number G55 = 55
slot_number G56 = 56
slot_number G57 = 57

abbrev pub once : {A B : Type 0} → Option A → B → Option B
once None b = Some b
once (Some a) b = None

abbrev pub once_set : {B : Type 0} → Bool → B → Option B
once_set false b = Some b
once_set true b = None

abbrev pub in_group : Group → ℕ → Groups → Option Groups
in_group motion g s = once s.motion (record { motion = Some (interpolation_of g); plane = s.plane; measure = s.measure; zero = s.zero; g53 = s.g53; g40 = s.g40; g60 = s.g60; g64 = s.g64; g71 = s.g71; g94 = s.g94 })
in_group plane g s = once s.plane (record { motion = s.motion; plane = Some (plane_of g); measure = s.measure; zero = s.zero; g53 = s.g53; g40 = s.g40; g60 = s.g60; g64 = s.g64; g71 = s.g71; g94 = s.g94 })
in_group measure g s = once s.measure (record { motion = s.motion; plane = s.plane; measure = Some (measure_of g); zero = s.zero; g53 = s.g53; g40 = s.g40; g60 = s.g60; g64 = s.g64; g71 = s.g71; g94 = s.g94 })
in_group zero g s = once s.zero (record { motion = s.motion; plane = s.plane; measure = s.measure; zero = Some (slot_of g); g53 = s.g53; g40 = s.g40; g60 = s.g60; g64 = s.g64; g71 = s.g71; g94 = s.g94 })
in_group g53 g s = once_set s.g53 (record { motion = s.motion; plane = s.plane; measure = s.measure; zero = s.zero; g53 = true; g40 = s.g40; g60 = s.g60; g64 = s.g64; g71 = s.g71; g94 = s.g94 })
in_group g40 g s = once_set s.g40 (record { motion = s.motion; plane = s.plane; measure = s.measure; zero = s.zero; g53 = s.g53; g40 = true; g60 = s.g60; g64 = s.g64; g71 = s.g71; g94 = s.g94 })
in_group g60 g s = once_set s.g60 (record { motion = s.motion; plane = s.plane; measure = s.measure; zero = s.zero; g53 = s.g53; g40 = s.g40; g60 = true; g64 = s.g64; g71 = s.g71; g94 = s.g94 })
in_group g64 g s = once_set s.g64 (record { motion = s.motion; plane = s.plane; measure = s.measure; zero = s.zero; g53 = s.g53; g40 = s.g40; g60 = s.g60; g64 = true; g71 = s.g71; g94 = s.g94 })
in_group g71 g s = once_set s.g71 (record { motion = s.motion; plane = s.plane; measure = s.measure; zero = s.zero; g53 = s.g53; g40 = s.g40; g60 = s.g60; g64 = s.g64; g71 = true; g94 = s.g94 })
in_group g94 g s = once_set s.g94 (record { motion = s.motion; plane = s.plane; measure = s.measure; zero = s.zero; g53 = s.g53; g40 = s.g40; g60 = s.g60; g64 = s.g64; g71 = s.g71; g94 = true })
in_group none g s = None

abbrev pub with_g : ℕ → Groups → Option Groups
with_g g s = in_group (group_of g) g s

abbrev pub no_modal : Groups → Bool
no_modal s = is_none s.motion && (is_none s.plane && (is_none s.measure && is_none s.zero))

abbrev pub no_flag : Groups → Bool
no_flag s = not s.g53 && (not s.g40 && (not s.g60 && (not s.g64 && (not s.g71 && not s.g94))))

abbrev pub no_group : Groups
no_group = record { motion = None; plane = None; measure = None; zero = None; g53 = false; g40 = false; g60 = false; g64 = false; g71 = false; g94 = false }
