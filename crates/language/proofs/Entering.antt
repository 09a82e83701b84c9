-- Entering targets into rooms: one target, one line, and one line after the other. Assumes nothing.
--     put_is                 what `Index::enter` says, as a target that enters a room or finds no place
--     enter_none             the end of entering line by line
--     lines_on, lines_stop   a turn before it, and the turn that is refused
--     same_on                the rooms stay the same, from turn to turn
--     all_numbers, all_labels    where every target found a place, each of them was entered
--     whole              the same where nothing was entered before
use Rattle.std.proofs.Common.{◌≡◌, ℕ, ◌+◌, List, [], ◌∷◌, ◌++◌, take, drop, Some, None, Ok, Err, Option, Result, MatchResult, IsErrAnd, sym, refl, ap, ◌∙◌, arith}
use Rattle.std.proofs.lemmas.List.{append_assoc, append-nil, take_more_set, drop_more, drop-set-lt, drop_all}
use Rattle.std.specs.Option.{option_map}
use Rattle.motions.specs.declared.refusal.Refusal.{Refusal}
use Rattle.forms.specs.declared.said.Place.{Place}
use Rattle.index.specs.declared.entry.Entry.{Entry}
use Rattle.index.specs.declared.entry.Full.{Full}
use Rattle.index.specs.declared.index.Index.{Index}
use Rattle.index.specs.Entries.{entries, Added, Kept, Entered}
use Rattle.rules.specs.Targets.{Said}
use Rattle.language.specs.declared.targets.Targets.{Targets}
use Rattle.language.specs.Indexing.{place_of, entry_if, numbers_of, labels_of, Room, room_of, Put, put_before, put, Rooms, put_number, put_label, unless_in, unless_full, enter_line, enter_lines, enter_all, started, no_place, answer, rooms_of, Left, SameRooms, Whole}

-- One target

module _ {K : Type 0} (i : Index K) (o : Option K) (key : K) (line : ℕ) (is : o ≡ Some key) (k : Index K) where
  abbrev entry : Entry K
  entry = record { key = key; line = line }

  by_rest : (fs : List (Entry K)) → drop i.used i.room.now ≡ fs → put o line (room_of i) ≡ put_before entry (entries i) fs
  by_rest fs h = ap (λ t. put t line (room_of i)) is ∙ ap (put_before entry (entries i)) h

  put_added : Added i entry k → put o line (room_of i) ≡ record { room = room_of k; full = None }
  put_added a =
      let front : entries k ≡ entries i ++ entry ∷ [] = (λ j. take (a.counted j) (a.placed j)) ∙ take_more_set i.room.now i.used entry a.free in
      let rest : drop k.used k.room.now ≡ drop (i.used + 1) i.room.now = (λ j. drop (a.counted j) (a.placed j)) ∙ drop-set-lt (i.used + 1) i.room.now i.used entry (omega arith) in
      by_rest _ (drop_more i.room.now i.used entry a.free) ∙ (λ j. record { room = record { entered = sym front j; rest = sym rest j }; full = None })

  put_kept : Kept i k → put o line (room_of i) ≡ record { room = room_of k; full = Some line }
  put_kept a =
      let none : drop i.used i.room.now ≡ [] = drop_all i.used i.room.now a.full in
      let front : entries i ≡ entries k = λ j. take (sym a.used_stays j) (sym a.room_stays j) in
      let rest : [] ≡ drop k.used k.room.now = sym none ∙ (λ j. drop (sym a.used_stays j) (sym a.room_stays j)) in
      by_rest [] none ∙ (λ j. record { room = record { entered = front j; rest = rest j }; full = Some line })

  -- the same of a call of `enter` whose refusal, told by P, is that of the line
  pub put_is : (P : Full → Refusal → Type 0) → ((f : Full) (e : Refusal) → P f e → e ≡ no_place line) → (r : Result (Unit {0}) Full) (q : Result (Unit {0}) Refusal) → Entered i entry k r → MatchResult r (λ u. q ≡ Ok u) (λ f. IsErrAnd q (P f)) → record { room : room_of k ≡ (put o line (room_of i)).room; answer : q ≡ answer (put o line (room_of i)).full }
  put_is P why (Ok u) q a h = let e = put_added a in record { room = sym (ap (λ p. p.room) e); answer = h ∙ sym (ap (λ p. answer p.full) e) }
  put_is P why (Err f) (Ok u) a h = absurd h
  put_is P why (Err f) (Err d) a h = let e = put_kept a in record { room = sym (ap (λ p. p.room) e); answer = ap (λ x. Err x) (why f d h) ∙ sym (ap (λ p. answer p.full) e) }

-- what a target adds where it finds a place
put_entered : {K : Type 0} (o : Option K) (k : ℕ) (es fs : List (Entry K)) → (put o k (record { entered = es; rest = fs })).full ≡ None → (put o k (record { entered = es; rest = fs })).room.entered ≡ es ++ entry_if o k []
put_entered None k es fs h = sym (append-nil es)
put_entered (Some key) k es [] h = absurd (let z : ◌≡◌ {A = ℕ} 0 1 = cc in omega arith)
put_entered (Some key) k es (f ∷ fs) h = refl

-- The answer

answer_ok : (o : Option ℕ) → Ok tt ≡ answer o → o ≡ None
answer_ok None h = refl
answer_ok (Some k) h = absurd (let z : ◌≡◌ {A = ℕ} 0 1 = cc in omega arith)

answer_err : (o : Option ℕ) (e : Refusal) → Err e ≡ answer o → (k : ℕ) × (o ≡ Some k)
answer_err None e h = absurd (let z : ◌≡◌ {A = ℕ} 0 1 = cc in omega arith)
answer_err (Some k) e h = (k, refl)

-- One line

module _ (k : ℕ) (l : Said) (r : Rooms) where
  abbrev number_put : Put ℕ
  number_put = put l.number k r.numbers

  abbrev label_put : Put Place
  label_put = put (option_map place_of l.label) k r.labels

  -- the number found a place, so the label is next
  line_on : number_put.full ≡ None → enter_line k l r ≡ record { numbers = number_put.room; labels = label_put.room; full = label_put.full }
  line_on h = λ j. unless_in (h j) (put_label l.label k) (put_number l.number k r)

  -- the number found no place, so the labels stay
  line_refused : (n : ℕ) → number_put.full ≡ Some n → enter_line k l r ≡ record { numbers = number_put.room; labels = r.labels; full = number_put.full }
  line_refused n h = λ j. unless_in (h j) (put_label l.label k) (put_number l.number k r)

  line_by : (o : Option ℕ) → number_put.full ≡ o → (enter_line k l r).full ≡ None → number_put.full ≡ None
  line_by None e h = e
  line_by (Some n) e h = absurd (let same = ap (λ x. x.full) (line_refused n e) in let z : ◌≡◌ {A = ℕ} 0 1 = cc in omega arith)

  -- each found a place
  number_found : (enter_line k l r).full ≡ None → number_put.full ≡ None
  number_found h = line_by number_put.full refl h

  line_numbers : (enter_line k l r).full ≡ None → (enter_line k l r).numbers.entered ≡ r.numbers.entered ++ entry_if l.number k []
  line_numbers h = ap (λ x. x.numbers.entered) (line_on (number_found h)) ∙ put_entered l.number k r.numbers.entered r.numbers.rest (number_found h)

  line_labels : (enter_line k l r).full ≡ None → (enter_line k l r).labels.entered ≡ r.labels.entered ++ entry_if (option_map place_of l.label) k []
  line_labels h =
      let on = line_on (number_found h) in
      ap (λ x. x.labels.entered) on ∙ put_entered (option_map place_of l.label) k r.labels.entered r.labels.rest (sym (ap (λ x. x.full) on) ∙ h)

-- Line by line

enter_one : (k : ℕ) (l : Said) (ls : List Said) (r : Rooms) → enter_lines k (l ∷ ls) r ≡ unless_full (enter_lines (k + 1) ls) (enter_line k l r)
unfolding enter_lines
enter_one k l ls r = refl

pub enter_none : (k : ℕ) (r : Rooms) → enter_lines k [] r ≡ r
unfolding enter_lines
enter_none k r = refl

module _ (k : ℕ) (l : Said) (ls : List Said) (r : Rooms) where
  on_by : (o : Option ℕ) → (enter_line k l r).full ≡ o → (enter_lines k (l ∷ ls) r).full ≡ None → (enter_line k l r).full ≡ None
  on_by None e h = e
  on_by (Some n) e h =
      let stays : enter_lines k (l ∷ ls) r ≡ enter_line k l r = enter_one k l ls r ∙ ap (λ o. unless_in o (enter_lines (k + 1) ls) (enter_line k l r)) e in
      absurd (let f = ap (λ x. x.full) stays in let z : ◌≡◌ {A = ℕ} 0 1 = cc in omega arith)

  found_here : (enter_lines k (l ∷ ls) r).full ≡ None → (enter_line k l r).full ≡ None
  found_here h = on_by (enter_line k l r).full refl h

  goes_on : (enter_line k l r).full ≡ None → enter_lines k (l ∷ ls) r ≡ enter_lines (k + 1) ls (enter_line k l r)
  goes_on h = enter_one k l ls r ∙ ap (λ o. unless_in o (enter_lines (k + 1) ls) (enter_line k l r)) h

  stops : (n : ℕ) → (enter_line k l r).full ≡ Some n → enter_lines k (l ∷ ls) r ≡ enter_line k l r
  stops n h = enter_one k l ls r ∙ ap (λ o. unless_in o (enter_lines (k + 1) ls) (enter_line k l r)) h

-- a turn at the line l, which has the number n and is followed by the lines ls
module _ (n : ℕ) (l : Said) (ls : List Said) (r : Rooms) (t : Targets) where
  pub lines_on : Left t (Ok tt) (enter_line n l r) → enter_lines (n + 1) ls (rooms_of t) ≡ enter_lines n (l ∷ ls) r
  lines_on w =
      let none = answer_ok (enter_line n l r).full w.answer in
      (λ j. enter_lines (n + 1) ls (record { numbers = w.numbers j; labels = w.labels j; full = sym none j })) ∙ sym (goes_on n l ls r none)

  pub lines_stop : (e : Refusal) → Left t (Err e) (enter_line n l r) → enter_line n l r ≡ enter_lines n (l ∷ ls) r
  lines_stop e w = let s = answer_err (enter_line n l r).full e w.answer in sym (stops n l ls r s.0 s.1)

pub same_on : (t u v : Targets) → SameRooms t u → SameRooms u v → SameRooms t v
same_on t u v p q = ((q.0.0 ∙ p.0.0, q.0.1 ∙ p.0.1), (q.1.0 ∙ p.1.0, q.1.1 ∙ p.1.1))

entry_before : {K : Type 0} (o : Option K) (k : ℕ) (es : List (Entry K)) → entry_if o k [] ++ es ≡ entry_if o k es
entry_before None k es = refl
entry_before (Some key) k es = refl

pub all_numbers : (k : ℕ) (ls : List Said) (r : Rooms) → (enter_lines k ls r).full ≡ None → (enter_lines k ls r).numbers.entered ≡ r.numbers.entered ++ numbers_of k ls
unfolding numbers_of
all_numbers k [] r h = ap (λ x. x.numbers.entered) (enter_none k r) ∙ sym (append-nil r.numbers.entered)
all_numbers k (l ∷ ls) r h =
    let here = found_here k l ls r h in
    let on = goes_on k l ls r here in
    let more = all_numbers (k + 1) ls (enter_line k l r) (sym (ap (λ x. x.full) on) ∙ h) in
    ap (λ x. x.numbers.entered) on ∙ more ∙ ap (λ es. es ++ numbers_of (k + 1) ls) (line_numbers k l r here)
    ∙ append_assoc r.numbers.entered (entry_if l.number k []) (numbers_of (k + 1) ls)
    ∙ ap (λ es. r.numbers.entered ++ es) (entry_before l.number k (numbers_of (k + 1) ls))

pub all_labels : (k : ℕ) (ls : List Said) (r : Rooms) → (enter_lines k ls r).full ≡ None → (enter_lines k ls r).labels.entered ≡ r.labels.entered ++ labels_of k ls
unfolding labels_of
all_labels k [] r h = ap (λ x. x.labels.entered) (enter_none k r) ∙ sym (append-nil r.labels.entered)
all_labels k (l ∷ ls) r h =
    let here = found_here k l ls r h in
    let on = goes_on k l ls r here in
    let more = all_labels (k + 1) ls (enter_line k l r) (sym (ap (λ x. x.full) on) ∙ h) in
    ap (λ x. x.labels.entered) on ∙ more ∙ ap (λ es. es ++ labels_of (k + 1) ls) (line_labels k l r here)
    ∙ append_assoc r.labels.entered (entry_if (option_map place_of l.label) k []) (labels_of (k + 1) ls)
    ∙ ap (λ es. r.labels.entered ++ es) (entry_before (option_map place_of l.label) k (labels_of (k + 1) ls))

pub whole : (ls : List Said) (n : Room ℕ) (b : Room Place) → n.entered ≡ [] → b.entered ≡ [] → (t : Targets) → rooms_of t ≡ enter_all ls n b → Whole ls t
whole ls n b p q t is =
    let full : (enter_all ls n b).full ≡ None = sym (ap (λ x. x.full) is) in
    record {
      numbers = ap (λ x. x.numbers.entered) is ∙ all_numbers 1 ls (started n b) full ∙ ap (λ es. es ++ numbers_of 1 ls) p;
      labels = ap (λ x. x.labels.entered) is ∙ all_labels 1 ls (started n b) full ∙ ap (λ es. es ++ labels_of 1 ls) q;
    }
