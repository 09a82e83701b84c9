-- The rows of open repeats as a list, the last one opened first. Assumes nothing.
use Rattle.std.proofs.Common.{◌≡◌, ℕ, zero, suc, ◌+◌, ◌<◌, ◌≤◌, ◌≢◌, List, ◌∷◌, length, set, refl, ap, ◌∙◌, add-one, arith}
use Rattle.std.proofs.lemmas.List.{get_or-set_same, get_or-set_other}
use Rattle.rules.specs.declared.state.Repeat.{Repeat}
use Rattle.rules.specs.Model.{stacked, no_repeat}

-- a row at or above the rows in use changes nothing
below : (rows : List Repeat) (k n : ℕ) (y : Repeat) → n ≤ k → stacked (set rows k y) n ≡ stacked rows n
below rows k zero y h = refl
below rows k (suc n) y h =
    let ne : n ≢ k = (λ e. omega arith) in
    λ i. get_or-set_other rows k n y no_repeat ne i ∷ below rows k n y (omega arith) i

pub replaced : (rows : List Repeat) (k : ℕ) (y : Repeat) → k < length rows → stacked (set rows k y) (suc k) ≡ y ∷ stacked rows k
replaced rows k y h i = get_or-set_same rows k y no_repeat h i ∷ below rows k k y (omega arith) i

pub pushed : (rows : List Repeat) (n : ℕ) (y : Repeat) → n < length rows → stacked (set rows n y) (n + 1) ≡ y ∷ stacked rows n
pushed rows n y h = ap (stacked (set rows n y)) (add-one n) ∙ replaced rows n y h

pub deep : (rows : List Repeat) (n : ℕ) → length (stacked rows n) ≡ n
deep rows zero = refl
deep rows (suc n) = ap suc (deep rows n)

pub ruleset opened = (pushed, deep)
