use Rattle.std.proofs.Common.{◌≡◌, ℕ, Bool, true, false, List, sym, refl, ap, ◌∙◌}
use Rattle.std.proofs.Math.Logic.{∥∥₁_elim}
use Rattle.std.specs.Coded.{Coded-set, coded_option, coded_ℕ}
use Rattle.forms.specs.Forms.{Named}
use Rattle.forms.specs.Model.{name_at}
use Rattle.forms.specs.declared.said.Place.{Place}
use Rattle.forms.specs.declared.said.Target.{Target}
use Rattle.index.specs.Entries.{entries, lines_with, same_name}
use Rattle.rules.specs.Targets.{Said, bearers, target as means}
use Rattle.rules.specs.Values.{named_target}
use Rattle.reading.specs.declared.program.Program.{Program}
use Rattle.reading.specs.Reading.{held_text, held_lines}
use Rattle.language.specs.Indexing.{nearest_by, Whole}
use Rattle.language.proofs.Matching.{number_lines, label_lines}
use Rattle.language.proofs.indexed.Indexed.find.Goals as goal

either_way : (ls : List Said) (forward : Bool) (t : Target Named) (n : ℕ) → nearest_by forward n (bearers t 1 ls) ≡ means ls forward t n
either_way ls true t n = refl
either_way ls false t n = refl

-- the nearest of the lines ks, where those bear the target that t is
among : (p : Program) (forward : Bool) (n : ℕ) (t u : Target Place) → t ≡ u → (ks : List ℕ) → ks ≡ bearers (named_target (name_at (held_text p)) u) 1 (held_lines p) → nearest_by forward n ks ≡ means (held_lines p) forward (named_target (name_at (held_text p)) t) n
among p forward n t u is ks bear =
    ap (nearest_by forward n) bear ∙ either_way (held_lines p) forward (named_target (name_at (held_text p)) u) n
    ∙ ap (λ v. means (held_lines p) forward (named_target (name_at (held_text p)) v) n) (sym is)

pub returns-in-Number : goal.returns-in-Number
returns-in-Number c =
    let s = c.args.self.now in
    let p = s.program.now in
    let bear = λ (w : Whole (held_lines p) s.targets.now). number_lines p s.targets.now w c.in-Number.number in
    record { value = ∥∥₁_elim s.whole (Coded-set (coded_option coded_ℕ) _ _) (λ w. c.nearest.ensures.value ∙ among p c.args.forward c.args.from c.args.target _ c.in-Number.is _ (bear w)) }

pub returns-in-Label : goal.returns-in-Label
returns-in-Label c =
    let s = c.args.self.now in
    let p = s.program.now in
    let name = c.in-Label.name in
    let bear = λ (w : Whole (held_lines p) s.targets.now). ap (λ text. lines_with (same_name text) name (entries s.targets.now.labels)) c.text-text.ensures.value ∙ label_lines p s.targets.now w name in
    record { value = ∥∥₁_elim s.whole (Coded-set (coded_option coded_ℕ) _ _) (λ w. c.nearest-in-Label.ensures.value ∙ among p c.args.forward c.args.from c.args.target _ c.in-Label.is _ (bear w)) }
