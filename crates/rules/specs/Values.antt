-- What the sums of a line are worth. Assumes nothing.
--     value ps s         what the sum s is worth where ps are the R parameters; None where a partial result is beyond its range
--     optional f o       f of what may be missing: no failure where it is missing
--     each f a           f of each that is named; None where it fails at one
--     valued f st        the statement st with f of each of its sums; None where f fails at one
--     named g st         the statement st with g of each of its names
use Rattle.std.specs.Prelude.{List, ℤ, pos, Some, None, Option}
use Rattle.sums.specs.Sums.{Sum, total, ◌>>=◌}
use Rattle.forms.specs.declared.said.Statement.{Statement}
use Rattle.forms.specs.declared.said.Statement.TheVariants as say
use Rattle.forms.specs.declared.said.Target.{Target}
use Rattle.forms.specs.declared.said.Target.TheVariants as to
use Rattle.forms.specs.declared.said.Test.{Test}
use Rattle.forms.specs.declared.said.Words.{Words}
use Rattle.forms.specs.Words.{Each}

abbrev pub value : List ℤ → Sum → Option ℤ
value ps s = total ps (Some (pos 0)) s

abbrev pub optional : {V W : Type 0} → (V → Option W) → Option V → Option (Option W)
optional f None = Some None
optional f (Some v) = f v >>= (λ w. Some (Some w))

abbrev pub each : {V W : Type 0} → (V → Option W) → Each V → Option (Each W)
each f a =
    optional f a.x >>= (λ x. optional f a.y >>= (λ y. optional f a.z >>= (λ z. Some (record { x = x; y = y; z = z }))))

module _ {V : Type 0} (f : V → Option ℤ) where
  abbrev pub valued_test : Test V → Option (Test ℤ)
  valued_test t = f t.left >>= (λ a. f t.right >>= (λ b. Some (record { left = a; how = t.how; right = b })))

  abbrev pub valued_words : Words V → Option (Words ℤ)
  valued_words ws =
      each f ws.axes >>= (λ a. each f ws.centres >>= (λ c.
      Some (record { groups = ws.groups; axes = a; centres = c; feed = ws.feed; speed = ws.speed; tool = ws.tool; action = ws.action; area = ws.area })))

  abbrev pub valued : {N : Type 0} → Statement V N → Option (Statement ℤ N)
  valued say.Nothing = Some say.Nothing
  valued (say.Words ws) = valued_words ws >>= (λ v. Some (say.Words v))
  valued (say.Limits upper a) = each f a >>= (λ v. Some (say.Limits upper v))
  valued (say.Dwell p) = Some (say.Dwell p)
  valued (say.Shift adds a) = each f a >>= (λ v. Some (say.Shift adds v))
  valued (say.Assign k s) = f s >>= (λ v. Some (say.Assign k v))
  valued (say.Jump forward t test) = optional valued_test test >>= (λ v. Some (say.Jump forward t v))
  valued (say.Repeat l n) = Some (say.Repeat l n)

module _ {N M : Type 0} (g : N → M) where
  abbrev pub named_target : Target N → Target M
  named_target (to.Label l) = to.Label (g l)
  named_target (to.Number n) = to.Number n

  abbrev pub named : {V : Type 0} → Statement V N → Statement V M
  named say.Nothing = say.Nothing
  named (say.Words ws) = say.Words ws
  named (say.Limits upper a) = say.Limits upper a
  named (say.Dwell p) = say.Dwell p
  named (say.Shift adds a) = say.Shift adds a
  named (say.Assign k v) = say.Assign k v
  named (say.Jump forward t test) = say.Jump forward (named_target t) test
  named (say.Repeat l n) = say.Repeat (g l) n
