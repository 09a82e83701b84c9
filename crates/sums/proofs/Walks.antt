-- What a walk from cursor to cursor makes of sums, step by step. Assumes nothing.
--     shut_by o                what is left of a sum in brackets where its closing bracket is taken
--     Remains W d ts us acc    the sum at the tokens ts is worth what is left of it at us, added to acc
use Rattle.std.proofs.Common.{◌≡◌, ℕ, zero, suc, ◌-◌, ◌<◌, Bool, true, cond, List, length, get_or, ℤ, pos, Some, None, Option, sym, refl, ap, ◌∙◌, arith}
use Rattle.std.specs.Option.{option_map}
use Rattle.lexer.specs.Tokens.{Num, Token, number, word, first, rest}
use Rattle.lexer.specs.Numbers.{decimal_of, digits_of}
use Rattle.lexer.specs.declared.symbols.Letter.{Letter}
use Rattle.lexer.specs.declared.symbols.Letter.TheVariants.{R}
use Rattle.lexer.specs.declared.symbols.Mark.TheVariants.{Closing}
use Rattle.sums.specs.Sums.{Term, value, parameter, group, Sum, also, Reading, ◌>>=◌, sign_of, minus_of, after_sign, take_mark, is_the, joined, by_sign, more_of, closed, term_by, term_of, bracket_of, sum_in, worth, total, plus}
use Rattle.sums.specs.Model.{weighed}

abbrev pub shut_by : Option (Option ℤ × List Token) → Option (Option ℤ × List Token)
shut_by o = o >>= (λ y. option_map (λ ts. (y.0, ts)) (take_mark Closing y.1))

pub record Remains (W : List ℤ) (d : ℕ) (ts us : List Token) (acc : Option ℤ) : Type 0 where
  pub fuel : ℕ
  pub above : length us < fuel
  pub same : weighed (total W (Some (pos 0))) (sum_in d ts) ≡ weighed (total W acc) (more_of (λ v. term_of d v) fuel us)

pub bracket_shut : (d : ℕ) (ts : List Token) → d ≡ 0 → bracket_of d ts ≡ None
unfolding bracket_of
bracket_shut zero ts e = refl
bracket_shut (suc d) ts e = absurd (omega arith)

more_by : (T : Reading Term) (f : ℕ) (ts : List Token) → 0 < f → more_of T f ts ≡ by_sign (sign_of (first ts)) (λ m. joined m (T (rest ts)) (λ u. more_of T (f - 1) u)) ts
unfolding more_of
more_by T zero ts h = absurd (omega arith)
more_by T (suc f) ts h = let p : f ≡ suc f - 1 = omega arith in ap (λ g. by_sign (sign_of (first ts)) (λ m. joined m (T (rest ts)) (λ u. more_of T g u)) ts) p

module _ (W : List ℤ) where
  taken : (x : Sum) (k : Option (List Token)) → weighed (worth W) (k >>= (λ ts. Some (group x, ts))) ≡ option_map (λ ts. (total W (Some (pos 0)) x, ts)) k
  unfolding worth
  taken x None = refl
  taken x (Some ts) = refl

  closed_is : (o : Option (Sum × List Token)) → weighed (worth W) (closed o) ≡ shut_by (weighed (total W (Some (pos 0))) o)
  closed_is None = refl
  closed_is (Some x) = taken x.0 (take_mark Closing x.1)

  pub bracket_is : (d : ℕ) (ts : List Token) → (d ≡ 0 → ⊥) → weighed (worth W) (bracket_of d ts) ≡ shut_by (weighed (total W (Some (pos 0))) (sum_in (d - 1) ts))
  unfolding bracket_of
  bracket_is zero ts h = absurd (h refl)
  bracket_is (suc d) ts h = let p : d ≡ suc d - 1 = omega arith in ap (λ g. weighed (worth W) (closed (sum_in g ts))) p ∙ closed_is (sum_in (suc d - 1) ts)

  also_is : (m : Bool) (acc : Option ℤ) (a : Term) (o : Option (Sum × List Token)) → weighed (total W acc) (o >>= (λ y. Some (also m a y.0, y.1))) ≡ weighed (total W (plus m acc (worth W a))) o
  unfolding total
  also_is m acc a None = refl
  also_is m acc a (Some y) = refl

  joined_is : (m : Bool) (acc : Option ℤ) (o : Option (Term × List Token)) (k : Reading Sum) → weighed (total W acc) (joined m o k) ≡ (weighed (worth W) o >>= (λ y. weighed (total W (plus m acc y.0)) (k y.1)))
  joined_is m acc None k = refl
  joined_is m acc (Some x) k = also_is m acc x.0 (k x.1)

  -- a sum from its first term on, from a further one on, and where none follows
  module _ (d : ℕ) (ts us : List Token) (m : Bool) where
    pub first_is : us ≡ after_sign (sign_of (first ts)) ts → m ≡ minus_of (sign_of (first ts)) → (o : Option (Option ℤ × List Token)) → weighed (worth W) (term_of d us) ≡ o → weighed (total W (Some (pos 0))) (sum_in d ts) ≡ (o >>= (λ y. weighed (total W (plus m (Some (pos 0)) y.0)) (more_of (λ v. term_of d v) (suc (length y.1)) y.1)))
    first_is e g o h =
        (λ j. weighed (total W (Some (pos 0))) (joined (sym g j) (term_of d (sym e j)) (λ u. more_of (λ v. term_of d v) (suc (length u)) u)))
        ∙ joined_is m (Some (pos 0)) (term_of d us) (λ u. more_of (λ v. term_of d v) (suc (length u)) u)
        ∙ ap (λ o. o >>= (λ y. weighed (total W (plus m (Some (pos 0)) y.0)) (more_of (λ v. term_of d v) (suc (length y.1)) y.1))) h

    pub next_is : sign_of (first ts) ≡ Some m → rest ts ≡ us → (acc : Option ℤ) (f : ℕ) → 0 < f → (o : Option (Option ℤ × List Token)) → weighed (worth W) (term_of d us) ≡ o → weighed (total W acc) (more_of (λ v. term_of d v) f ts) ≡ (o >>= (λ y. weighed (total W (plus m acc y.0)) (more_of (λ v. term_of d v) (f - 1) y.1)))
    next_is e g acc f some o h =
        ap (weighed (total W acc)) (more_by (λ v. term_of d v) f ts some ∙ (λ j. by_sign (e j) (λ m. joined m (term_of d (g j)) (λ u. more_of (λ v. term_of d v) (f - 1) u)) ts))
        ∙ joined_is m acc (term_of d us) (λ u. more_of (λ v. term_of d v) (f - 1) u)
        ∙ ap (λ o. o >>= (λ y. weighed (total W (plus m acc y.0)) (more_of (λ v. term_of d v) (f - 1) y.1))) h

  pub none_is : (d : ℕ) (ts : List Token) → sign_of (first ts) ≡ None → (acc : Option ℤ) (f : ℕ) → 0 < f → weighed (total W acc) (more_of (λ v. term_of d v) f ts) ≡ Some (acc, ts)
  unfolding total
  none_is d ts e acc f some = ap (weighed (total W acc)) (more_by (λ v. term_of d v) f ts some ∙ ap (λ o. by_sign o (λ m. joined m (term_of d (rest ts)) (λ u. more_of (λ v. term_of d v) (f - 1) u)) ts) e)

  -- a term, by its first token
  module _ (ts us : List Token) (B : Reading Term) (goes : rest ts ≡ us) where
    pub at_number : (n : Num) (v : ℕ) → first ts ≡ number n → Some v ≡ decimal_of n → weighed (worth W) (term_by B (first ts) (rest ts)) ≡ Some (Some (pos v), us)
    unfolding worth
    at_number n v e f = (λ j. weighed (worth W) (term_by B (e j) (goes j))) ∙ ap (λ o. weighed (worth W) (o >>= (λ v. Some (value v, us)))) (sym f)

    pub at_param : (l : Letter) (n : Num) (v : ℕ) → first ts ≡ word l n → true ≡ is_the R l → Some v ≡ digits_of 2 n → weighed (worth W) (term_by B (first ts) (rest ts)) ≡ Some (Some (get_or W v (pos 0)), us)
    unfolding worth
    at_param l n v e y f =
        (λ j. weighed (worth W) (term_by B (e j) (goes j)))
        ∙ ap (λ b. weighed (worth W) (cond b (Some n) None >>= (λ m. digits_of 2 m >>= (λ k. Some (parameter k, us))))) (sym y)
        ∙ ap (λ o. weighed (worth W) (o >>= (λ v. Some (parameter v, us)))) (sym f)
