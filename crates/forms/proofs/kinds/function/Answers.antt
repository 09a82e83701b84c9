use Rattle.std.proofs.Common.{◌≡◌, ℕ, Some, None, Option, ap, ◌∙◌, subst, arith, rules}
use Rattle.lexer.specs.Numbers.{integer_of}
use Rattle.lexer.specs.Model.{num_is, Capped}
use Rattle.forms.specs.Groups.{with_g, no_group}
use Rattle.forms.specs.declared.said.Groups.{Groups}
use Rattle.sums.specs.Sums.{◌>>=◌}
use Rattle.forms.proofs.kinds.function.Goals as goal

-- a number that was cut has no group
function_is : (o : Option ℕ) (g : ℕ) (s : Groups) → Capped o (Some g) → Some s ≡ with_g g no_group → Some g ≡ (o >>= (λ n. with_g n no_group >>= (λ s. Some n)))
function_is None g s h e = cc
function_is (Some n) g s h e =
    let below : g ≡ 10000 → ⊥ = λ p. (let no : Some s ≡ None = e ∙ ap (λ k. with_g k no_group) p in cc) in
    let same : g ≡ n = omega (arith, h, below) in
    subst (λ k. Some g ≡ (with_g k no_group >>= (λ s. Some k))) same (ap (λ o. o >>= (λ s. Some g)) e)

pub returns : goal.returns
returns c =
    let none : c.default.result ≡ no_group = search rules in
    record { value = function_is (integer_of (num_is c.args.n)) c.in_ok-g.g _ c.in_ok-g.ensures.value (c.in_ok-with.ensures.value ∙ ap (with_g c.in_ok-g.g) none) }
