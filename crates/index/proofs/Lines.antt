-- The lines that the entries of an index give to a key, as entries are added. Assumes nothing.
--     lines_append           the lines of two lists of entries, one after the other
--     lines_push             the lines with one more entry at the end
--     lines_entered          the same where the entry was written at the first free place of the room
--     lines_added            the same of what `enter` says of an entry that was added
use Rattle.std.proofs.Common.{◌≡◌, ℕ, ◌+◌, ◌<◌, Bool, true, false, List, [], ◌∷◌, ◌++◌, length, take, set, refl, ap, ◌∙◌}
use Rattle.std.proofs.lemmas.List.{take_more_set}
use Rattle.index.specs.declared.entry.Entry.{Entry}
use Rattle.index.specs.declared.index.Index.{Index}
use Rattle.index.specs.Entries.{entries, line_if, lines_with, Added}

line_if_append : (b : Bool) (k : ℕ) (ks js : List ℕ) → line_if b k (ks ++ js) ≡ line_if b k ks ++ js
line_if_append true k ks js = refl
line_if_append false k ks js = refl

module _ {K : Type 0} (same : K → K → Bool) (key : K) where
  pub lines_append : (es fs : List (Entry K)) → lines_with same key (es ++ fs) ≡ lines_with same key es ++ lines_with same key fs
  unfolding lines_with
  lines_append [] fs = refl
  lines_append (e ∷ es) fs = ap (line_if (same e.key key) e.line) (lines_append es fs) ∙ line_if_append (same e.key key) e.line (lines_with same key es) (lines_with same key fs)

  pub lines_push : (es : List (Entry K)) (e : Entry K) → lines_with same key (es ++ e ∷ []) ≡ lines_with same key es ++ line_if (same e.key key) e.line []
  unfolding lines_with
  lines_push es e = lines_append es (e ∷ [])

  pub lines_entered : (room : List (Entry K)) (used : ℕ) (e : Entry K) → used < length room → lines_with same key (take (used + 1) (set room used e)) ≡ lines_with same key (take used room) ++ line_if (same e.key key) e.line []
  lines_entered room used e h = ap (lines_with same key) (take_more_set room used e h) ∙ lines_push (take used room) e

  pub lines_added : {i : Index K} {e : Entry K} {j : Index K} → Added i e j → lines_with same key (entries j) ≡ lines_with same key (entries i) ++ line_if (same e.key key) e.line []
  lines_added {i} {e} a = (λ k. lines_with same key (take (a.counted k) (a.placed k))) ∙ lines_entered i.room.now i.used e a.free
