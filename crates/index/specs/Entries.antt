-- The entries of an index: the lines that stand under a key, and what entering one more leaves. When two names are the same. Assumes nothing.
--     entries i                      the entries of the index i: the first of its room
--     line_if b k ks                 the line k before the lines ks where b holds, else ks
--     lines_with same key es         the lines of the entries es whose key is the same as key, in the order of the entries
--     Added i e j                    the index j is i with the entry e at the first free place of the room: no other place has changed, and j counts one more
--     Kept i j                       no place was free, and nothing has changed
--     Entered i e j r                where the answer r is Ok, the entry was added, and else all was kept
--     SameRoom i j                   the room is lent by the same owner, and as long as before
--     same_name text a b             the bytes of the text at the places a and b are the same, with capitals made small
use Rattle.std.specs.Prelude.{◌≡◌, ℕ, ◌+◌, ◌<◌, ◌≤◌, Bool, true, false, List, [], ◌∷◌, length, take, Ok, Err, Result, slice_set}
use Rattle.std.specs.Str.{bytes_eq}
use Rattle.forms.specs.Model.{name_at}
use Rattle.forms.specs.declared.said.Place.{Place}
use Rattle.index.specs.declared.entry.Entry.{Entry}
use Rattle.index.specs.declared.index.Index.{Index}

abbrev pub entries : {K : Type 0} → Index K → List (Entry K)
entries i = take i.used i.room.now

abbrev pub line_if : Bool → ℕ → List ℕ → List ℕ
line_if true k ks = k ∷ ks
line_if false k ks = ks

unfoldable pub lines_with : {K : Type 0} → (K → K → Bool) → K → List (Entry K) → List ℕ
lines_with same key [] = []
lines_with same key (e ∷ es) = line_if (same e.key key) e.line (lines_with same key es)

pub record Added {K : Type 0} (i : Index K) (e : Entry K) (j : Index K) : Type 0 where
  pub free : i.used < length i.room.now
  pub placed : j.room.now ≡ slice_set i.room.now i.used e
  pub counted : j.used ≡ i.used + 1

pub record Kept {K : Type 0} (i j : Index K) : Type 0 where
  pub full : length i.room.now ≤ i.used
  pub room_stays : j.room.now ≡ i.room.now
  pub used_stays : j.used ≡ i.used

abbrev pub Entered : {K E : Type 0} → Index K → Entry K → Index K → Result (Unit {0}) E → Type 0
Entered i e j (Ok _) = Added i e j
Entered i e j (Err _) = Kept i j

abbrev pub SameRoom : {K : Type 0} → Index K → Index K → Type 0
SameRoom i j = (length j.room.now ≡ length i.room.now) × (j.room.ghost_name ≡ i.room.ghost_name)

abbrev pub same_name : List ℕ → Place → Place → Bool
same_name text a b = bytes_eq (name_at text a).bytes (name_at text b).bytes
