-- Names at places of a text that is cut, and in the whole text. Assumes nothing.
--     name_cut           a name that is read up to a cut is read in the whole text too, at a place as long as it is
--     cut_length         how many bytes such a name has
use Rattle.std.proofs.Common.{◌≡◌, ℕ, ◌+◌, ◌-◌, min, List, map, length, take, drop, sym, ap, ◌∙◌, ⊎_elim, arith, length-drop, length-take}
use lib.ListN.{length-map}
use Rattle.std.proofs.lemmas.List.{take_all, take-take, drop_all, drop-take}
use Rattle.std.proofs.lemmas.Bool.{cases_lt}
use Rattle.std.specs.Char.{to_ascii_lowercase}
use Rattle.forms.specs.Model.{name_at}
use Rattle.forms.specs.declared.said.Place.{Place}

module _ {A : Type 0} where
  -- no more is taken than there is
  take_as_long : (n : ℕ) (xs : List A) → take (length (take n xs)) xs ≡ take n xs
  take_as_long n xs =
      ⊎_elim (λ l. ap (λ k. take k xs) (length-take n xs ∙ (let e : min n (length xs) ≡ n = omega arith in e)))
      (λ l. take_all (length (take n xs)) xs (omega (arith, length-take n xs)) ∙ sym (take_all n xs l)) (cases_lt n (length xs))

  take_both : (n m : ℕ) (xs : List A) → take n (take m xs) ≡ take (min n m) xs
  take_both n m xs =
      ⊎_elim (λ l. take-take n m xs (omega arith) ∙ ap (λ k. take k xs) (let e : n ≡ min n m = omega arith in e))
      (λ l. take_all n (take m xs) (omega (arith, length-take m xs)) ∙ ap (λ k. take k xs) (let e : m ≡ min n m = omega arith in e)) (cases_lt n m)

  drop_front : (f e : ℕ) (xs : List A) → drop f (take e xs) ≡ take (e - f) (drop f xs)
  drop_front f e xs =
      ⊎_elim (λ l. ap (λ k. drop f (take k xs)) (let k : e ≡ f + (e - f) = omega arith in k) ∙ drop-take f (e - f) xs)
      (λ l. drop_all f (take e xs) (omega (arith, length-take e xs)) ∙ ap (λ k. take k (drop f xs)) (let k : 0 ≡ e - f = omega arith in k)) (cases_lt f e)

  -- a part of what comes before a cut
  part_cut : (e f n : ℕ) (xs : List A) → take n (drop f (take e xs)) ≡ take (min n (e - f)) (drop f xs)
  part_cut e f n xs = ap (take n) (drop_front f e xs) ∙ take_both n (e - f) (drop f xs)

  part_again : (e f n : ℕ) (xs : List A) → take (length (take n (drop f (take e xs)))) (drop f xs) ≡ take n (drop f (take e xs))
  part_again e f n xs =
      ap (λ ys. take (length ys) (drop f xs)) (part_cut e f n xs) ∙ take_as_long (min n (e - f)) (drop f xs) ∙ sym (part_cut e f n xs)

module _ (text : List ℕ) (end : ℕ) (place : Place) where
  abbrev cut : List ℕ
  cut = take place.length (drop place.from (take end text))

  pub cut_length : length (name_at (take end text) place).bytes ≡ min place.length (min end (length text) - place.from)
  cut_length = length-map cut to_ascii_lowercase ∙ simp (length-take, length-drop)

  pub name_cut : (n : ℕ) → n ≡ length (name_at (take end text) place).bytes → name_at text (record { from = place.from; length = n }) ≡ name_at (take end text) place
  name_cut n is =
      let bytes : take n (drop place.from text) ≡ cut = ap (λ k. take k (drop place.from text)) (is ∙ length-map cut to_ascii_lowercase) ∙ part_again end place.from place.length text in
      λ j. record { bytes = map to_ascii_lowercase (bytes j); place = place.from }
