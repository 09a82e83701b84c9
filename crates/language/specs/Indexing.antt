-- The targets that the lines of a part program bear, and entering them into two rooms of entries. Assumes nothing.
--     place_of n          the place of the name n: where it begins, and how many bytes it has
--     entry_if o k es    the entry of line k under the key that o holds, before the entries es; es alone where o holds none
--     numbers_of k ls, labels_of k ls    the entries of the N numbers, and of the labels, of the lines ls, in their order,
--                        where the first of them has the number k
--     Room K             a room of entries: those that were entered, and the rest, untouched
--     room_of i          the room of the index i
--     free es            the room es, in which nothing was entered yet
--     Put K              a room after a target of a line was to enter it, and the number of that line where no place was left
--     put o k r          the target o of line k, if there is one, takes the first place of the rest of the room r
--     Rooms              the room of the N numbers and that of the labels, and the line whose target found no place, if one did
--     put_number o k, put_label o k  the N number, or the label, of line k enters its room
--     unless_full f r    f of the rooms r, or r as they are where a target found no place
--     enter_line k l     enters the targets of the line l with the number k: its N number, and then its label
--     enter_lines k ls   enters the targets of the lines ls, line by line, where the first has the number k
--     started n b        the rooms n and b, where every target has found a place so far
--     enter_all ls n b   enters the targets of all lines of a program into the rooms n and b
--     rooms_of t         the rooms of the targets t, where every target has found a place so far
--     Left t r after     the rooms of the targets t are those of after, and r answers for them
--     SameRooms t u      the rooms are lent by the same owners, and as long as before
--     no_place k         the refusal of line k, whose target found no place
--     answer o           what is answered: that refusal where o holds such a line
--     nearest_by forward n ks    the nearest of the lines ks: above n, or else up to n
--     Whole ls t         the indexes of t hold the N numbers and the labels of the lines ls of a program, and no others
use Rattle.std.specs.Prelude.{◌≡◌, ℕ, ◌+◌, Bool, true, false, List, [], ◌∷◌, ◌++◌, length, drop, Some, None, Ok, Err, Option, Result}
use Rattle.std.specs.Option.{option_map}
use Rattle.motions.specs.declared.refusal.Reason.TheVariants.{IndexRoom}
use Rattle.motions.specs.declared.refusal.Refusal.{Refusal}
use Rattle.forms.specs.Forms.{Named}
use Rattle.forms.specs.declared.said.Place.{Place}
use Rattle.index.specs.declared.entry.Entry.{Entry}
use Rattle.index.specs.declared.index.Index.{Index}
use Rattle.index.specs.Entries.{entries, SameRoom}
use Rattle.index.specs.Nearest.{nearest_after, nearest_up_to}
use Rattle.rules.specs.Targets.{Said}
use Rattle.language.specs.declared.targets.Targets.{Targets}

-- The targets of some lines

abbrev pub place_of : Named → Place
place_of n = record { from = n.place; length = length n.bytes }

abbrev pub entry_if : {K : Type 0} → Option K → ℕ → List (Entry K) → List (Entry K)
entry_if None k es = es
entry_if (Some key) k es = record { key = key; line = k } ∷ es

unfoldable pub numbers_of : ℕ → List Said → List (Entry ℕ)
numbers_of k [] = []
numbers_of k (l ∷ ls) = entry_if l.number k (numbers_of (k + 1) ls)

unfoldable pub labels_of : ℕ → List Said → List (Entry Place)
labels_of k [] = []
labels_of k (l ∷ ls) = entry_if (option_map place_of l.label) k (labels_of (k + 1) ls)

-- Entering them

pub record Room (K : Type 0) : Type 0 where
  pub entered : List (Entry K)
  pub rest : List (Entry K)

abbrev pub room_of : {K : Type 0} → Index K → Room K
room_of i = record { entered = entries i; rest = drop i.used i.room.now }

abbrev pub free : {K : Type 0} → List (Entry K) → Room K
free es = record { entered = []; rest = es }

pub record Put (K : Type 0) : Type 0 where
  pub room : Room K
  pub full : Option ℕ

-- where es were entered, and the rest is the last list
abbrev pub put_before : {K : Type 0} → Entry K → List (Entry K) → List (Entry K) → Put K
put_before e es [] = record { room = record { entered = es; rest = [] }; full = Some e.line }
put_before e es (f ∷ fs) = record { room = record { entered = es ++ e ∷ []; rest = fs }; full = None }

abbrev pub put : {K : Type 0} → Option K → ℕ → Room K → Put K
put None k r = record { room = r; full = None }
put (Some key) k r = put_before (record { key = key; line = k }) r.entered r.rest

pub record Rooms : Type 0 where
  pub numbers : Room ℕ
  pub labels : Room Place
  pub full : Option ℕ

abbrev pub put_number : Option ℕ → ℕ → Rooms → Rooms
put_number o k r = let p = put o k r.numbers in record { numbers = p.room; labels = r.labels; full = p.full }

abbrev pub put_label : Option Named → ℕ → Rooms → Rooms
put_label o k r = let p = put (option_map place_of o) k r.labels in record { numbers = r.numbers; labels = p.room; full = p.full }

abbrev pub unless_in : Option ℕ → (Rooms → Rooms) → Rooms → Rooms
unless_in None f r = f r
unless_in (Some k) f r = r

abbrev pub unless_full : (Rooms → Rooms) → Rooms → Rooms
unless_full f r = unless_in r.full f r

abbrev pub enter_line : ℕ → Said → Rooms → Rooms
enter_line k l r = unless_full (put_label l.label k) (put_number l.number k r)

unfoldable pub enter_lines : ℕ → List Said → Rooms → Rooms
enter_lines k [] r = r
enter_lines k (l ∷ ls) r = unless_full (enter_lines (k + 1) ls) (enter_line k l r)

abbrev pub started : Room ℕ → Room Place → Rooms
started n b = record { numbers = n; labels = b; full = None }

abbrev pub enter_all : List Said → Room ℕ → Room Place → Rooms
enter_all ls n b = enter_lines 1 ls (started n b)

abbrev pub no_place : ℕ → Refusal
no_place k = record { reason = IndexRoom; line = k; motion = 0 }

abbrev pub answer : Option ℕ → Result (Unit {0}) Refusal
answer None = Ok tt
answer (Some k) = Err (no_place k)

-- Two indexes

abbrev pub rooms_of : Targets → Rooms
rooms_of t = started (room_of t.numbers) (room_of t.labels)

pub record Left (t : Targets) (r : Result (Unit {0}) Refusal) (after : Rooms) : Type 0 where
  pub numbers : room_of t.numbers ≡ after.numbers
  pub labels : room_of t.labels ≡ after.labels
  pub answer : r ≡ answer after.full

abbrev pub SameRooms : Targets → Targets → Type 0
SameRooms t u = SameRoom t.numbers u.numbers × SameRoom t.labels u.labels

-- What they hold, and looking a line up

abbrev pub nearest_by : Bool → ℕ → List ℕ → Option ℕ
nearest_by true n ks = nearest_after n ks
nearest_by false n ks = nearest_up_to n ks

pub record Whole (ls : List Said) (t : Targets) : Type 0 where
  pub numbers : entries t.numbers ≡ numbers_of 1 ls
  pub labels : entries t.labels ≡ labels_of 1 ls
