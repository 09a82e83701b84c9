-- The entries of a program's targets: which lines they give to a target. Assumes nothing.
--     numbers_bear, labels_bear  a target is looked up through its entries as on the lines
--     number_lines, label_lines  the same through the indexes that hold them
--     held_read                  the labels of the lines that a program holds stand in the text at their places
use Rattle.std.proofs.Common.{◌≡◌, ℕ, ◌+◌, eqb, List, [], ◌∷◌, map, length, take, Some, None, vec_items, Option, sym, refl, ap, ◌∙◌}
use Rattle.std.proofs.lemmas.Slice.Eq.{bytes_eq-Decides}
use Rattle.std.proofs.lemmas.Bool.Decides.{same_from_decides, Decides-like, Decides-eqb}
use Rattle.std.specs.Option.{option_map}
use Rattle.std.specs.Str.{bytes_eq}
use Rattle.forms.specs.Forms.{Named}
use Rattle.forms.specs.Model.{name_at}
use Rattle.forms.specs.declared.said.Place.{Place}
use Rattle.forms.specs.declared.said.Target.TheVariants.{Label, Number}
use Rattle.index.specs.declared.entry.Entry.{Entry}
use Rattle.index.specs.Entries.{entries, line_if, lines_with, same_name}
use Rattle.rules.specs.Targets.{Said, has_number, labelled, bearers}
use Rattle.reading.specs.declared.program.Held.{Held}
use Rattle.reading.specs.declared.program.Program.{Program}
use Rattle.reading.specs.Reading.{said, held_text, held_lines}
use Rattle.language.specs.declared.targets.Targets.{Targets}
use Rattle.language.specs.Indexing.{place_of, entry_if, numbers_of, labels_of, Whole}
use Rattle.language.proofs.Cut.{name_cut}

-- The lines that bear a target

eqb_swap : (a b : ℕ) → eqb a b ≡ eqb b a
eqb_swap a b = same_from_decides _ _ (Decides-eqb a b) (Decides-like _ sym sym (Decides-eqb b a))

bytes_swap : (a b : List ℕ) → bytes_eq a b ≡ bytes_eq b a
bytes_swap a b = same_from_decides _ _ (bytes_eq-Decides a b) (Decides-like _ sym sym (bytes_eq-Decides b a))

by_number : (n k : ℕ) (o : Option ℕ) (es : List (Entry ℕ)) (js : List ℕ) → lines_with (λ a b. eqb a b) n es ≡ js → lines_with (λ a b. eqb a b) n (entry_if o k es) ≡ line_if (has_number n o) k js
unfolding lines_with
by_number n k None es js h = h
by_number n k (Some m) es js h = λ j. line_if (eqb_swap m n j) k (h j)

pub numbers_bear : (n k : ℕ) (ls : List Said) → lines_with (λ a b. eqb a b) n (numbers_of k ls) ≡ bearers (Number n) k ls
unfolding lines_with numbers_of bearers
numbers_bear n k [] = refl
numbers_bear n k (l ∷ ls) = by_number n k l.number (numbers_of (k + 1) ls) (bearers (Number n) (k + 1) ls) (numbers_bear n (k + 1) ls)

module _ (text : List ℕ) where
  -- a label's bytes stand in the text at its place
  abbrev Reads : Option Named → Type 0
  Reads None = Unit {0}
  Reads (Some l) = (name_at text (place_of l)).bytes ≡ l.bytes

  abbrev pub EachReads : List Said → Type 0
  EachReads [] = Unit {0}
  EachReads (l ∷ ls) = Reads l.label × EachReads ls

  by_label : (p : Place) (k : ℕ) (o : Option Named) → Reads o → (es : List (Entry Place)) (js : List ℕ) → lines_with (same_name text) p es ≡ js → lines_with (same_name text) p (entry_if (option_map place_of o) k es) ≡ line_if (labelled (name_at text p) o) k js
  unfolding lines_with
  by_label p k None r es js h = h
  by_label p k (Some l) r es js h =
      let test : same_name text (place_of l) p ≡ bytes_eq (name_at text p).bytes l.bytes = ap (λ b. bytes_eq b (name_at text p).bytes) r ∙ bytes_swap l.bytes (name_at text p).bytes in
      λ j. line_if (test j) k (h j)

  pub labels_bear : (p : Place) (k : ℕ) (ls : List Said) → EachReads ls → lines_with (same_name text) p (labels_of k ls) ≡ bearers (Label (name_at text p)) k ls
  unfolding lines_with labels_of bearers
  labels_bear p k [] r = refl
  labels_bear p k (l ∷ ls) r = by_label p k l.label r.0 (labels_of (k + 1) ls) (bearers (Label (name_at text p)) (k + 1) ls) (labels_bear p (k + 1) ls r.1)

  label_reads : (end : ℕ) (o : Option Place) → Reads (option_map (name_at (take end text)) o)
  label_reads end None = tt
  label_reads end (Some p) = ap (λ n. n.bytes) (name_cut text end p (length (name_at (take end text) p).bytes) refl)

  pub held_read : (hs : List Held) → EachReads (map (said text) hs)
  held_read [] = tt
  held_read (h ∷ hs) = (label_reads h.end h.line.label, held_read hs)

-- Looking a target up through the indexes of a program's targets

module _ (p : Program) (t : Targets) (w : Whole (held_lines p) t) where
  pub number_lines : (n : ℕ) → lines_with (λ a b. eqb a b) n (entries t.numbers) ≡ bearers (Number n) 1 (held_lines p)
  number_lines n = ap (lines_with (λ a b. eqb a b) n) w.numbers ∙ numbers_bear n 1 (held_lines p)

  pub label_lines : (q : Place) → lines_with (same_name (held_text p)) q (entries t.labels) ≡ bearers (Label (name_at (held_text p) q)) 1 (held_lines p)
  label_lines q = ap (lines_with (same_name (held_text p)) q) w.labels ∙ labels_bear (held_text p) q 1 (held_lines p) (held_read (held_text p) (vec_items p.lines))
