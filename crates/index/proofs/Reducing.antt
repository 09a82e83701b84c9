-- What `reduce` of a chain gives. Assumes nothing.
--     reduced                where the closure answers as f does and stays as it is, it gives what f makes of the list that the chain yields
use Rattle.std.proofs.Common.{◌≡◌, List, [], ◌∷◌, Some, None, Option, refl, sym, ap, subst, ◌∙◌, map-id}
use denote.Param.Members.{Mut}
use Rattle.std.specs.Fn.{Called}
use Rattle.std.specs.Iterator.{Drains, FoldTurn, ReducesItems}
use Rattle.std.specs.List.{FoldsTo, fold, reduce}
use Rattle.std.proofs.lemmas.Iterator.{YieldsList, items_from_drains}

module _ {A F : Type 0} (g : Mut F (A × (A × Unit {0})) A) (f : A → A → A) (closure : F) (answers : (a x b : A) (q : F) → Called g closure (a, (x, tt)) b q → (q ≡ closure) × (b ≡ f a x)) where
  turned : (xs : List A) (p q : F × A) → p.0 ≡ closure → FoldsTo {P = F × A} (FoldTurn g) p xs q → q.1 ≡ fold f p.1 xs
  turned [] p q e c = ap (λ w. w.1) (sym c)
  turned (x ∷ xs) p q e c =
      let k = answers p.1 x c.0.1 c.0.0 (subst (λ w. Called g w (p.1, (x, tt)) c.0.1 c.0.0) e c.1) in
      turned xs c.0 q k.0 c.2 ∙ ap (λ a. fold f a xs) k.1

  module _ {S : Type 0} {steps : S → Option A → S → Type 0} {s : S} {all : List A} (every : YieldsList steps (λ x. x) s all) where
    drained : (xs : List A) → Drains steps s xs → xs ≡ all
    drained xs d = sym (map-id xs) ∙ items_from_drains xs (d.1.0, d.1.1, λ _. (d.0, d.1.2)) every

    pub reduced : (r : Option A) → ReducesItems steps g s closure r → r ≡ reduce f all
    reduced None h = ap (reduce f) (drained [] h)
    reduced (Some y) h = ap Some (turned h.1 (closure, h.0) (h.2, y) refl h.4) ∙ ap (reduce f) (drained (h.0 ∷ h.1) h.3)
