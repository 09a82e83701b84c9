-- What a program that is run in the sample shop tells. Assumes nothing.
--     Told p n b j r     the run of p is recorded in the journal j and answered r: its whole trace, where every target of p finds a place in
--                        the rooms n and b; else the refusal that names the line whose target found none
use Rattle.std.specs.Prelude.{◌≡◌, ℕ, List, Some, None, Option, Result}
use Rattle.motions.specs.declared.refusal.Refusal.{Refusal}
use Rattle.forms.specs.declared.said.Place.{Place}
use Rattle.language.specs.Indexing.{Room, enter_all, answer}
use Rattle.rules.specs.Targets.{Said}
use Rattle.traces.specs.Model.{trace_of}
use Rattle.traces.specs.Traces.{trace}
use Rattle.traces.specs.declared.journal.Journal.{Journal}
use Rattle.tracelist.specs.Start.{shop_setup}

abbrev pub ToldBy : Option ℕ → List Said → Journal → Result (Unit {0}) Refusal → Type 0
ToldBy None p j r = trace_of j r ≡ trace p shop_setup
ToldBy (Some k) p j r = r ≡ answer (Some k)

abbrev pub Told : List Said → Room ℕ → Room Place → Journal → Result (Unit {0}) Refusal → Type 0
Told p n b j r = ToldBy (enter_all p n b).full p j r
