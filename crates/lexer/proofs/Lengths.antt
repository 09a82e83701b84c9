-- Runs of bytes, and the number and the name that bytes begin with. Assumes nothing.
use Rattle.std.proofs.Common.{◌≡◌, ℕ, ◌+◌, ◌-◌, ◌<◌, ◌≤◌, Bool, true, false, cond, List, [], ◌∷◌, length, get_or, take, drop, Some, None, Option, sym, refl, ap, ◌∙◌, add-zero, one-add, arith}
use Rattle.std.specs.List.{prefix_len}
use denote.Param.Members.{Mut}
use denote.Ref.{Bor}
use Rattle.std.specs.Fn.{CalledAt}
use Rattle.std.specs.Iterator.{Drains}
use Rattle.std.specs.Iterator.Adapters.{take_while_source, take_while_callee, take_while_done, take_while_steps}
use Rattle.std.specs.declared.iter.TakeWhile.{TakeWhile}
use Rattle.std.proofs.lemmas.Iterator.{YieldsList}
use Rattle.std.proofs.lemmas.Iterator.Consumers.{count_from_yields_List}
use Rattle.std.proofs.lemmas.Iterator.Search.{YieldsList-from_take_while}
use Rattle.std.proofs.lemmas.List.{drop-drop, get_or-drop, length-drop, length-take-le}
use Rattle.std.proofs.lemmas.List.Folds.{length-prefix_len}
use Rattle.std.proofs.lemmas.List.Sums.{prefix_len-le-length}
use Rattle.std.proofs.lemmas.Bool.{and_from}
use Rattle.lexer.specs.Digits.{is_digit, all_digits}
use Rattle.lexer.specs.Bytes.{starts_name, in_name}
use Rattle.lexer.specs.Tokens.{pointed, part_of, part_length, num_of, num_length}
use Rattle.lexer.specs.Model.{OfDigits}
use Rattle.lexer.specs.Numbers.{part_digits}

pub head_at : (s : List ℕ) (i : ℕ) → get_or (drop i s) 0 0 ≡ get_or s i 0
head_at s i = get_or-drop i s 0 0 ∙ ap (λ k. get_or s k 0) (add-zero i)

-- how many items of a chain pass a test before the first that doesn't
pub run_counted : {S A F : Type 0} {steps : S → Option A → S → Type 0} {v : A → ℕ} {s : List ℕ} {f : F} {r : ℕ} (g : Mut F (Bor A × Unit {0}) Bool) (p : ℕ → Bool) (t : TakeWhile S F) → YieldsList steps v (take_while_source t) s → take_while_callee t ≡ f → take_while_done t ≡ false → ((xs : List A) × Drains (take_while_steps steps g) t xs × (r ≡ length xs)) → ((x : A) (b : Bool) (q : F) → CalledAt g f x b q → (q ≡ f) × (b ≡ p (v x))) → r ≡ prefix_len p s
run_counted {s = s} g p t gives callee done ran k = count_from_yields_List t _ ran (YieldsList-from_take_while g p gives callee done k) ∙ length-prefix_len p s

-- a run of digits holds digits alone

all_by : (b : Bool) (c : ℕ) (n : ℕ) (cs : List ℕ) → is_digit c ≡ b → all_digits (take n cs) ≡ true → all_digits (take (cond b (1 + n) 0) (c ∷ cs)) ≡ true
all_by true c n cs e h = rw one-add (and_from _ _ e h)
all_by false c n cs e h = refl

pub run_digits : (s : List ℕ) → all_digits (take (prefix_len is_digit s) s) ≡ true
run_digits [] = refl
run_digits (c ∷ cs) = all_by (is_digit c) c (prefix_len is_digit cs) cs refl (run_digits cs)

pub digits_from : (s : List ℕ) (a b : ℕ) → b ≡ a + prefix_len is_digit (drop a s) → all_digits (take (b - a) (drop a s)) ≡ true
digits_from s a b e =
    let n : b - a ≡ prefix_len is_digit (drop a s) = omega arith in ap (λ k. all_digits (take k (drop a s))) n ∙ run_digits (drop a s)

part_digits_lem : (b : Bool) (s : List ℕ) → all_digits (part_digits (part_of b s)) ≡ true
part_digits_lem true s = run_digits (drop 1 s)
part_digits_lem false s = refl

pub num_digits : (s : List ℕ) → OfDigits (num_of s)
num_digits s = let n = prefix_len is_digit s in record { whole = run_digits s; part = part_digits_lem (pointed (drop n s)) (drop n s) }

-- how long they are

part_high : (b : Bool) (s : List ℕ) → part_length (part_of b s) ≤ length s + 1
part_high true s = omega (arith, length-prefix_len is_digit (drop 1 s), prefix_len-le-length is_digit (drop 1 s), length-drop 1 s)
part_high false s = omega arith

pub number_high : (s : List ℕ) → num_length (num_of s) ≤ length s + 1
number_high s =
    let n = prefix_len is_digit s in
    omega (arith, length-prefix_len is_digit s, prefix_len-le-length is_digit s, part_high (pointed (drop n s)) (drop n s), length-drop n s)

some_by : (p : ℕ → Bool) (s : List ℕ) → p 0 ≡ false → p (get_or s 0 0) ≡ true → 0 < prefix_len p s
some_by p [] e h = cc
some_by p (c ∷ cs) e h = rw h (omega arith)

pub number_some : (s : List ℕ) → is_digit (get_or s 0 0) ≡ true → 0 < num_length (num_of s)
number_some s h = omega (arith, some_by is_digit s refl h, length-prefix_len is_digit s)

pub name_some : (s : List ℕ) → starts_name (get_or s 0 0) ≡ true → 0 < prefix_len in_name s
name_some s h = some_by in_name s refl (rw h refl)

-- by places in a line

pub part_length_lem : (s : List ℕ) (a b : ℕ) → a ≤ b → b ≤ length s → length (take (b - a) (drop a s)) ≡ b - a
part_length_lem s a b h k = length-take-le (b - a) (drop a s) (omega (arith, length-drop a s))

-- the number whose digits before the point lie from `from` up to `point`
module _ (s : List ℕ) (from point : ℕ) (is : point ≡ from + prefix_len is_digit (drop from s)) (high : point ≤ length s) where
  digits : point - from ≡ prefix_len is_digit (drop from s)
  digits = omega arith

  after : drop (prefix_len is_digit (drop from s)) (drop from s) ≡ drop point s
  after = drop-drop (prefix_len is_digit (drop from s)) from s ∙ ap (λ k. drop k s) (sym is)

  num_is_lem : (o : Option (List ℕ)) (b : Bool) → pointed (drop point s) ≡ b → o ≡ part_of b (drop point s) → record { whole = take (point - from) (drop from s); part = o } ≡ num_of (drop from s)
  num_is_lem o b e q =
      let p : part_of (pointed (drop (prefix_len is_digit (drop from s)) (drop from s))) (drop (prefix_len is_digit (drop from s)) (drop from s)) ≡ part_of b (drop point s) = ap (λ u. part_of (pointed u) u) after ∙ ap (λ c. part_of c (drop point s)) e in
      λ j. record { whole = take (digits j) (drop from s); part = (q ∙ sym p) j }

  pub point_none : pointed (drop point s) ≡ false → record { whole = take (point - from) (drop from s); part = None } ≡ num_of (drop from s)
  point_none e = num_is_lem None false e refl

  pub end_none : pointed (drop point s) ≡ false → point ≡ from + num_length (num_of (drop from s))
  end_none e = omega (arith, ap num_length (point_none e), part_length_lem s from point (omega arith) high)

  pub pointed_at : (c d : ℕ) → c ≡ get_or s point 0 → d ≡ get_or s (point + 1) 0 → (b : Bool) → pointed (c ∷ d ∷ []) ≡ b → pointed (drop point s) ≡ b
  pointed_at c d e f b h = (λ j. pointed ((head_at s point ∙ sym e) j ∷ (get_or-drop point s 1 0 ∙ sym f) j ∷ [])) ∙ h

  module _ (e : ℕ) (yes : pointed (drop point s) ≡ true) (ends : e ≡ point + 1 + prefix_len is_digit (drop (point + 1) s)) (top : e ≤ length s) where
    tail : Some (take (e - (point + 1)) (drop (point + 1) s)) ≡ part_of true (drop point s)
    tail =
        let n : e - (point + 1) ≡ prefix_len is_digit (drop (point + 1) s) = omega arith in
        sym (ap (λ u. Some (take (prefix_len is_digit u) u)) (drop-drop 1 point s) ∙ ap (λ k. Some (take k (drop (point + 1) s))) (sym n))

    pub point_some : record { whole = take (point - from) (drop from s); part = Some (take (e - (point + 1)) (drop (point + 1) s)) } ≡ num_of (drop from s)
    point_some = num_is_lem _ true yes tail

    pub end_some : e ≡ from + num_length (num_of (drop from s))
    end_some = omega (arith, ap num_length point_some, part_length_lem s from point (omega arith) high, part_length_lem s (point + 1) e (omega arith) top)
