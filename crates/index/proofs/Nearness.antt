-- The nearest of some lines. Assumes nothing.
--     lines_picked                   the lines under a key that pass a test, as an iterator goes over the entries
--     after_push, up_to_push         the nearest with one more line at the end
--     after_nearest, up_to_nearest   the functions answer as the relations say
--     after_says, up_to_says         so does each answer that is the same as theirs
use Rattle.std.proofs.Common.{◌≡◌, ℕ, ◌≤◌, min, max, Bool, true, false, cond, ◌&&◌, ltb, leb, ◌⊎◌, List, [], ◌∷◌, ◌++◌, map, filter, Some, None, Option, MatchOption, sym, refl, ap, ◌∙◌, subst, inl, inr, ⊎_elim, append-nil, arith}
use Rattle.std.proofs.lemmas.Bool.{cond_both, cases_lt, cases_Bool, ltb-true, ltb-false, lt-ltb, leb-true, leb-false, le-leb}
use Rattle.std.proofs.lemmas.List.Elements.{filter-append}
use Rattle.std.proofs.lemmas.List.Sums.{fold_push}
use Rattle.std.specs.List.{fold, reduce}
use Rattle.std.specs.Option.{option_map, unwrap_or}
use Rattle.index.specs.declared.entry.Entry.{Entry}
use Rattle.index.specs.Nearest.{nearest_after, nearest_up_to, OneOf, NearestAfter, NearestUpTo}
use Rattle.index.specs.Entries.{line_if, lines_with}

module _ (p : ℕ → Bool) where
  pub lines_picked : {K : Type 0} (same : K → K → Bool) (key : K) (es : List (Entry K)) → filter p (lines_with same key es) ≡ map (λ e. e.line) (filter (λ e. p e.line && same e.key key) es)
  unfolding lines_with
  lines_picked same key [] = refl
  lines_picked {K} same key (e ∷ es) = go (p e.line) (same e.key key) refl _ _ (lines_picked same key es)
    where
      go : (a b : Bool) → p e.line ≡ a → (ks : List ℕ) (fs : List (Entry K)) → filter p ks ≡ map (λ e. e.line) fs → filter p (line_if b e.line ks) ≡ map (λ e. e.line) (cond (a && b) (e ∷ fs) fs)
      go true true h ks fs more = (λ j. cond (h j) (e.line ∷ filter p ks) (filter p ks)) ∙ ap (λ js. e.line ∷ js) more
      go false true h ks fs more = (λ j. cond (h j) (e.line ∷ filter p ks) (filter p ks)) ∙ more
      go true false h ks fs more = more
      go false false h ks fs more = more

  -- the lines that pass a test are those of the lines that do
  passed : (j : ℕ) (ks : List ℕ) → OneOf j (filter p ks) → OneOf j ks × (p j ≡ true)
  unfolding OneOf
  passed j [] = absurd
  passed j (k ∷ ks) =
      let more : OneOf j (filter p ks) → OneOf j (k ∷ ks) × (p j ≡ true) = λ o. let w = passed j ks o in (inr w.0, w.1) in
      cond_both (p k) _ _ (λ js. OneOf j js → OneOf j (k ∷ ks) × (p j ≡ true)) (λ t. ⊎_elim (λ e. (inl e, ap p e ∙ t)) more) (λ f. more)

  passes : (j : ℕ) (ks : List ℕ) → OneOf j ks → p j ≡ true → OneOf j (filter p ks)
  unfolding OneOf
  passes j [] o t = absurd o
  passes j (k ∷ ks) o t =
      cond_both (p k) _ _ (OneOf j) (λ w. ⊎_elim inl (λ o. inr (passes j ks o t)) o)
      (λ f. ⊎_elim (λ e. absurd (let z : true ≡ false = sym t ∙ ap p e ∙ f in let one : ◌≡◌ {A = ℕ} 0 1 = cc in omega arith)) (λ o. passes j ks o t) o)

-- one more line at the end
pushed : (f : ℕ → ℕ → ℕ) → ((a b : ℕ) → f a b ≡ f b a) → (p : ℕ → Bool) (ks : List ℕ) (k : ℕ) → reduce f (filter p (ks ++ k ∷ [])) ≡ cond (p k) (Some (unwrap_or (option_map (f k) (reduce f (filter p ks))) k)) (reduce f (filter p ks))
pushed f swaps p ks k = ap (reduce f) (filter-append p ks (k ∷ [])) ∙ go (p k) (filter p ks)
  where
    go : (b : Bool) (js : List ℕ) → reduce f (js ++ cond b (k ∷ []) []) ≡ cond b (Some (unwrap_or (option_map (f k) (reduce f js)) k)) (reduce f js)
    go false js = ap (reduce f) (append-nil js)
    go true [] = refl
    go true (j ∷ js) = ap Some (fold_push f j js k ∙ swaps (fold f j js) k)

pub after_push : (n : ℕ) (ks : List ℕ) (k : ℕ) → nearest_after n (ks ++ k ∷ []) ≡ cond (ltb n k) (Some (unwrap_or (option_map (min k) (nearest_after n ks)) k)) (nearest_after n ks)
unfolding nearest_after
after_push n ks k = pushed min (λ a b. omega arith) (ltb n) ks k

pub up_to_push : (n : ℕ) (ks : List ℕ) (k : ℕ) → nearest_up_to n (ks ++ k ∷ []) ≡ cond (leb k n) (Some (unwrap_or (option_map (max k) (nearest_up_to n ks)) k)) (nearest_up_to n ks)
unfolding nearest_up_to
up_to_push n ks k = pushed max (λ a b. omega arith) (λ k. leb k n) ks k

-- f picks one of two lines, and R holds between what it picks and both
module _ (f : ℕ → ℕ → ℕ) (R : ℕ → ℕ → Type 0) (picks : (k j : ℕ) → (f k j ≡ k) ⊎ (f k j ≡ j)) (itself : (k : ℕ) → R k k) (both : (r k j : ℕ) → R r (f k j) → R r k × R r j) where
  picked : (k : ℕ) (ks : List ℕ) → OneOf (fold f k ks) (k ∷ ks) × ((j : ℕ) → OneOf j (k ∷ ks) → R (fold f k ks) j)
  unfolding OneOf
  picked k [] = (inl refl, λ j. ⊎_elim (λ e. subst (R k) (sym e) (itself k)) absurd)
  picked k (m ∷ ks) =
      let w = picked (f k m) ks in
      let two = both _ k m (w.1 (f k m) (inl refl)) in (
        ⊎_elim (λ e. ⊎_elim (λ h. inl (e ∙ h)) (λ h. inr (inl (e ∙ h))) (picks k m)) (λ o. inr (inr o)) w.0,
        λ j. ⊎_elim (λ e. subst (R _) (sym e) two.0) (⊎_elim (λ e. subst (R _) (sym e) two.1) (λ o. w.1 j (inr o))),
      )

  found : (p : ℕ → Bool) (ks : List ℕ) → MatchOption (reduce f (filter p ks)) ((j : ℕ) → OneOf j ks → p j ≡ false) (λ k. OneOf k ks × (p k ≡ true) × ((j : ℕ) → OneOf j ks → p j ≡ true → R k j))
  unfolding OneOf
  found p ks = go (filter p ks) refl
    where
      go : (fs : List ℕ) → filter p ks ≡ fs → MatchOption (reduce f fs) ((j : ℕ) → OneOf j ks → p j ≡ false) (λ k. OneOf k ks × (p k ≡ true) × ((j : ℕ) → OneOf j ks → p j ≡ true → R k j))
      go [] e = λ j o. ⊎_elim (λ t. absurd (subst (OneOf j) e (passes p j ks o t))) (λ t. t) (cases_Bool (p j))
      go (k ∷ fs) e =
          let w = picked k fs in
          let one = passed p _ ks (subst (OneOf _) (sym e) w.0) in
          (one.0, one.1, λ j o t. w.1 j (subst (OneOf j) e (passes p j ks o t)))

pub after_nearest : (n : ℕ) (ks : List ℕ) → NearestAfter n ks (nearest_after n ks)
unfolding nearest_after
after_nearest n ks = go (reduce min (filter (ltb n) ks)) (found min (λ k j. k ≤ j) (λ k j. ⊎_elim (λ l. inl (omega arith)) (λ l. inr (omega arith)) (cases_lt k j)) (λ k. omega arith) (λ r k j h. (omega arith, omega arith)) (ltb n) ks)
  where
    go : (r : Option ℕ) → MatchOption r ((j : ℕ) → OneOf j ks → ltb n j ≡ false) (λ k. OneOf k ks × (ltb n k ≡ true) × ((j : ℕ) → OneOf j ks → ltb n j ≡ true → k ≤ j)) → NearestAfter n ks r
    go None h = λ j o. ltb-false n j (h j o)
    go (Some k) h = (h.0, ltb-true n k h.1, λ j o l. h.2 j o (lt-ltb n j l))

pub up_to_nearest : (n : ℕ) (ks : List ℕ) → NearestUpTo n ks (nearest_up_to n ks)
unfolding nearest_up_to
up_to_nearest n ks = go (reduce max (filter (λ k. leb k n) ks)) (found max (λ k j. j ≤ k) (λ k j. ⊎_elim (λ l. inr (omega arith)) (λ l. inl (omega arith)) (cases_lt k j)) (λ k. omega arith) (λ r k j h. (omega arith, omega arith)) (λ k. leb k n) ks)
  where
    go : (r : Option ℕ) → MatchOption r ((j : ℕ) → OneOf j ks → leb j n ≡ false) (λ k. OneOf k ks × (leb k n ≡ true) × ((j : ℕ) → OneOf j ks → leb j n ≡ true → j ≤ k)) → NearestUpTo n ks r
    go None h = λ j o. leb-false j n (h j o)
    go (Some k) h = (h.0, leb-true k n h.1, λ j o l. h.2 j o (le-leb j n l))

pub after_says : (n : ℕ) (ks : List ℕ) (r : Option ℕ) → r ≡ nearest_after n ks → NearestAfter n ks r
after_says n ks r e = subst (NearestAfter n ks) (sym e) (after_nearest n ks)

pub up_to_says : (n : ℕ) (ks : List ℕ) (r : Option ℕ) → r ≡ nearest_up_to n ks → NearestUpTo n ks r
up_to_says n ks r e = subst (NearestUpTo n ks) (sym e) (up_to_nearest n ks)
