-- Lines by their numbers, and the front of a text. Assumes nothing.
use Rattle.std.proofs.Common.{◌≡◌, ℕ, zero, suc, ◌-◌, ◌<◌, ◌≤◌, min, Bool, true, false, leb, ltb, ◌⊎◌, List, [], ◌∷◌, map, length, get_or, take, drop, Some, None, Option, Bor, sym, refl, ap, ◌∙◌, inl, inr, arith}
use Rattle.std.proofs.lemmas.List.{take_all, drop_all}
use Rattle.std.proofs.lemmas.Option.{slice_get-get_or, slice_get-map, slice_get_past, slice_get_read}
use Rattle.std.proofs.lemmas.Bool.{leb-true, leb-false, ltb-true, ltb-false}
use Rattle.std.specs.List.{slice_get}
use Rattle.std.specs.Option.{is_some, IfSome, option_copied, option_map}
use Rattle.forms.specs.Numbered.{numbered}

-- what a list's `get` gives, copied
pub gotten : {A : Type 0} (xs : List A) (i : ℕ) (o : Option (Bor A)) → is_some o ≡ ltb i (length xs) → IfSome o (λ x. x.now ≡ get_or xs i x.now) → option_copied o ≡ slice_get xs i
gotten xs i None none h = sym (slice_get_past xs i (ltb-false i (length xs) (sym none)))
gotten xs i (Some x) some h = sym (slice_get_read xs (length xs) i x.now refl (ltb-true i (length xs) (sym some)) h)

pub numbered_is : {A : Type 0} (ls : List A) (n i : ℕ) → 1 ≤ n → i ≡ n - 1 → numbered ls n ≡ slice_get ls i
numbered_is ls zero i h e = absurd (omega arith)
numbered_is ls (suc n) i h e = let k : n ≡ i = omega arith in ap (slice_get ls) k

pub numbered_none : {A : Type 0} (ls : List A) (n : ℕ) → (n ≡ 0) ⊎ (length ls < n) → None ≡ numbered ls n
numbered_none ls zero h = refl
numbered_none ls (suc n) (inl h) = absurd (omega arith)
numbered_none ls (suc n) (inr h) = sym (slice_get_past ls n (omega arith))

pub numbered_some : {A B : Type 0} (f : A → B) (xs : List A) (n : ℕ) (x : A) → 0 < n → n ≤ length xs → x ≡ get_or xs (n - 1) x → Some (f x) ≡ numbered (map f xs) n
numbered_some f xs zero x h l e = absurd (omega arith)
numbered_some f xs (suc n) x h l e =
    let k : suc n - 1 ≡ n = omega arith in
    ap (λ y. Some (f y)) (e ∙ ap (λ i. get_or xs i x) k) ∙ ap (option_map f) (sym (slice_get-get_or xs n x (omega arith))) ∙ sym (slice_get-map f xs n)

nth_one : {A : Type 0} (xs : List A) (i : ℕ) (x : A) → Some x ≡ slice_get xs i → (i < length xs) × (drop i xs ≡ x ∷ drop (suc i) xs)
nth_one [] i x h = absurd (cc)
nth_one (y ∷ ys) zero x h = let e : y ≡ x = cc in (omega arith, ap (λ z. z ∷ ys) e)
nth_one (y ∷ ys) (suc i) x h = let more = nth_one ys i x h in (omega arith, more.1)

-- a line that has a number, and those from it on
pub record Numbered {A : Type 0} (ls : List A) (n : ℕ) (x : A) : Type 0 where
  pub low : 0 < n
  pub high : n ≤ length ls
  pub on : drop (n - 1) ls ≡ x ∷ drop n ls

pub numbered_here : {A : Type 0} (ls : List A) (n : ℕ) (x : A) → Some x ≡ numbered ls n → Numbered ls n x
numbered_here ls zero x h = absurd (cc)
numbered_here ls (suc i) x h =
    let one = nth_one ls i x h in
    let k : suc i - 1 ≡ i = omega arith in
    record { low = omega arith; high = omega (arith, one.0); on = ap (λ m. drop m ls) k ∙ one.1 }

nth_none : {A : Type 0} (xs : List A) (i : ℕ) → None ≡ slice_get xs i → length xs ≤ i
nth_none [] i h = omega arith
nth_none (y ∷ ys) zero h = absurd (cc)
nth_none (y ∷ ys) (suc i) h = omega (arith, nth_none ys i h)

-- no line has a number above 0, so none is left from there on
pub numbered_past : {A : Type 0} (ls : List A) (n : ℕ) → 0 < n → None ≡ numbered ls n → drop (n - 1) ls ≡ []
numbered_past ls zero l h = absurd (omega arith)
numbered_past ls (suc i) l h = drop_all (suc i - 1) ls (omega (arith, nth_none ls i h))

front_by : (s : List ℕ) (e n : ℕ) (b : Bool) → leb e (length s) ≡ b → n ≡ min e (length s) → take (n - 0) s ≡ take e s
front_by s e n true h is =
    let le = leb-true e (length s) h in
    let k : n - 0 ≡ e = omega (arith, is, le) in
    ap (λ i. take i s) k
front_by s e n false h is =
    let lt = leb-false e (length s) h in
    take_all (n - 0) s (omega (arith, is, lt)) ∙ sym (take_all e s (omega (arith, lt)))

pub front : (s : List ℕ) (e n : ℕ) → n ≡ min e (length s) → take (n - 0) s ≡ take e s
front s e n is = front_by s e n (leb e (length s)) refl is
