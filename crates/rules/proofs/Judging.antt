-- What is answered to the row of a line, from the tests of its parts. Assumes nothing.
use Rattle.std.proofs.Common.{◌≡◌, Bool, true, false, cond, not, ◌||◌, ℤ, Some, None, Option, sym, refl, ap, ◌∙◌}
use Rattle.std.proofs.lemmas.Bool.{and_from, cond-true}
use Rattle.std.proofs.lemmas.Option.{cond_some}
use Rattle.std.specs.Option.{option_or}
use Rattle.algebra.specs.declared.vector.Vector.{Vector}
use Rattle.motions.specs.declared.axes.Axes.{Axes}
use Rattle.motions.specs.declared.refusal.Reason.{Reason}
use Rattle.motions.specs.declared.refusal.Reason.TheVariants.{MotionRange, ArcRule}
use Rattle.motions.specs.declared.row.PathKind.{PathKind}
use Rattle.motions.specs.declared.row.Row.{Row}
use Rattle.motions.specs.Motions.{centre_in_range, row_in_range, keeps_arc_rule, fault}
use Rattle.motions.specs.Ranges.{within, each_within, position_range, centre_range}
use Rattle.rules.specs.Model.{in_reach, centre_in_reach, each_in_reach, kind_in_reach, row_in_reach}
use Rattle.rules.specs.Moves.{fault_by}

pub centre_reached : (c : Vector) (u v : ℤ) → Some u ≡ in_reach centre_range c.u → Some v ≡ in_reach centre_range c.v → Some (record { u = u; v = v }) ≡ centre_in_reach c
centre_reached c u v e f =
    let p = cond_some (within centre_range c.u) c.u u (sym e) in
    let q = cond_some (within centre_range c.v) c.v v (sym f) in
    sym (cond-true _ _ _ (and_from _ _ p.0 q.0) ∙ (λ i. Some (record { u = p.1 i; v = q.1 i })))

pub row_reached : (m : Row) (end : Axes ℤ) (kind : PathKind) → Some end ≡ each_in_reach m.end → Some kind ≡ kind_in_reach m.kind
    → Some (record { kind = kind; start = m.start; end = end }) ≡ row_in_reach m
row_reached m end kind e k =
    let p = cond_some (each_within position_range m.end) m.end end (sym e) in
    let q = cond_some (centre_in_range m.kind) m.kind kind (sym k) in
    sym (cond-true _ _ _ (and_from _ _ p.0 q.0) ∙ (λ i. Some (record { kind = q.1 i; start = m.start; end = p.1 i })))

-- a row's own fault stays, whatever stands beside it
judged_own : (m : Row) (wrong : Bool) → option_or (fault m) (cond wrong (Some ArcRule) None) ≡ fault_by wrong m
judged_own m wrong = go (row_in_range m) (keeps_arc_rule m) wrong
  where
    go : (a b w : Bool)
        → option_or (cond a (cond b None (Some ArcRule)) (Some MotionRange)) (cond w (Some ArcRule) None)
        ≡ cond a (cond (w || not b) (Some ArcRule) None) (Some MotionRange)
    go true true true = refl
    go true true false = refl
    go true false true = refl
    go true false false = refl
    go false b w = refl

-- of a row r that was answered for the row m of a line
module _ (m r : Row) (e : Some r ≡ row_in_reach m) where
  pub judged_same : r ≡ m
  judged_same = sym (cond_some _ m r (sym e)).1

  pub judged : (wrong w : Bool) (o : Option Reason) → w ≡ wrong → fault r ≡ o → fault_by wrong m ≡ option_or o (cond w (Some ArcRule) None)
  judged wrong w o h f =
      sym (judged_own m wrong) ∙ (λ i. option_or ((ap fault (sym judged_same) ∙ f) i) (cond (sym h i) (Some ArcRule) None))
