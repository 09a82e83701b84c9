-- What a journal stands for. Assumes nothing.
--     recorded j         the motions that are recorded in the journal j
--     noted j            how many they are
--     with_next ms o      the motions ms, and one more, if there is one
--     HasRoom o n        a journal of n motions has room for one more, if there is one
--     counted_with o n   how many they are then
--     trace_of j r       the trace of a run that was recorded in j and answered r
use Rattle.std.specs.Prelude.{ℕ, ◌+◌, ◌<◌, List, [], ◌∷◌, ◌++◌, map, Some, None, Ok, Err, vec_items, vec_len, Option, Result}
use Rattle.motions.specs.declared.refusal.Refusal.{Refusal}
use Rattle.rules.specs.Model.{made_is}
use Rattle.rules.specs.Moves.{most_motions}
use Rattle.rules.specs.State.{Made}
use Rattle.traces.specs.declared.journal.Journal.{Journal}
use Rattle.traces.specs.Traces.{End, accepted, stopped, Trace}

abbrev pub recorded : Journal → List Made
recorded j = map made_is (vec_items j.made)

abbrev pub noted : Journal → ℕ
noted j = vec_len j.made

abbrev pub with_next : {A : Type 0} → List A → Option A → List A
with_next ms None = ms
with_next ms (Some m) = ms ++ m ∷ []

abbrev pub HasRoom : {A : Type 0} → Option A → ℕ → Type 0
HasRoom None n = Unit {0}
HasRoom (Some m) n = n < most_motions

abbrev pub counted_with : {A : Type 0} → Option A → ℕ → ℕ
counted_with None n = n
counted_with (Some m) n = n + 1

abbrev pub end_of : Result (Unit {0}) Refusal → End
end_of (Ok u) = accepted
end_of (Err r) = stopped r

abbrev pub trace_of : Journal → Result (Unit {0}) Refusal → Trace
trace_of j r = record { made = recorded j; end = end_of r }
