-- A session's step, with what goes with it: what it is about in the index then.
use Rattle.std.proofs.Common.{◌≡◌, ℕ, ◌∙◌, refl, sym, ap, subst, false}
use Rattle.std.specs.Prelude.{Option, Some, None}
use Rattle.fkv_plane.specs.declared.actions.Action.{Action}
use Rattle.fkv_plane.specs.declared.asks.Ask.{Ask}
use Rattle.fkv_plane.specs.declared.asks.Ask.TheVariants.{Load, Store, Swap, Cas, Add, Max, Put, Take, Done}
use Rattle.fkv_plane.specs.Asked.{words_after, reply_to}
use Rattle.fkv_plane.specs.Plane.{action_at}
use Rattle.law_world.specs.Below.fkv_session.Told.{Told}
use Rattle.law_world.specs.Below.fkv_session.Sessions.{SessionState, Seat, session_ask, session_next, is_word_ask}
use Rattle.law_world.specs.Below.fkv_world.Moves.{Near, session_gets, session_settled, session_replied, session_asks}
use Rattle.law_refine.specs.Index.Finders.{NoWork, IndexPart, session_part}
use Rattle.law_refine.proofs.OfIndex.Goes.{IsQuiet, stays_part, goes_on_to}
use Rattle.law_refine.proofs.OfIndex.SessionParts.{SittingKnows, SessionGoes, Homes, session_goes, given_goes}
use Rattle.law_refine.proofs.OfIndex.SessionAsks.{asks_nothing}

nothing : (k : Seat) (s : SessionState) (ask : Ask Told) → session_ask k s ≡ ask → is_word_ask ask ≡ false → SittingKnows k.places s s.step → (session_part s).work ≡ NoWork
nothing k s ask asks none knows = asks_nothing k s knows (ap is_word_ask asks ∙ none)

idles : (k : Seat) (s : SessionState) → SittingKnows k.places s s.step → (session_part s).work ≡ NoWork → SessionGoes k.places 0 (session_part s) s
idles k s knows none = record { knows = knows; goes = stays_part k.places 0 (session_part s) (subst IsQuiet (sym none) tt) }

gets : (k : Seat) (s : SessionState) (found : Option Action) → SittingKnows k.places s s.step → (session_part s).work ≡ NoWork → SessionGoes k.places 0 (session_part s) (session_gets k s found)
gets k s None knows none = idles k s knows none
gets k s (Some action) knows none = given_goes k s action knows none

-- what goes with an ask
record Settled (k : Seat) (reply : ℕ) (before : IndexPart) (n after : Near SessionState) : Type 0 where
  goes : SessionGoes k.places reply before after.machine
  words : after.words ≡ n.words

goes_then : (k : Seat) (reply : ℕ) (before : IndexPart) (s after : SessionState) → (session_part s).work ≡ NoWork → SessionGoes k.places reply before s → SessionGoes k.places 0 (session_part s) after → SessionGoes k.places reply before after
goes_then k reply before s after none goes next = record { knows = next.knows; goes = goes_on_to k.places reply 0 before (session_part s) (session_part after) none goes.goes next.goes }

settles : (k : Seat) (reply : ℕ) (before : IndexPart) (n : Near SessionState) (ask : Ask Told) → Homes k → session_ask k n.machine ≡ ask → SessionGoes k.places reply before n.machine → Settled k reply before n (session_settled k n ask)
unfolding session_settled
settles k reply before n (Put slot action) homes asks goes =
    let none = nothing k n.machine (Put slot action) asks refl goes.knows in
    record { goes = goes_then k reply before n.machine (session_next k n.machine 0) none goes (session_goes k n.machine 0 homes goes.knows); words = refl }
settles k reply before n (Take slot) homes asks goes =
    let none = nothing k n.machine (Take slot) asks refl goes.knows in
    record { goes = goes_then k reply before n.machine _ none goes (gets k n.machine (action_at n.actions slot) goes.knows none); words = refl }
settles k reply before n (Load place) homes asks goes = record { goes = goes; words = refl }
settles k reply before n (Store place word) homes asks goes = record { goes = goes; words = refl }
settles k reply before n (Swap place word) homes asks goes = record { goes = goes; words = refl }
settles k reply before n (Cas place old new) homes asks goes = record { goes = goes; words = refl }
settles k reply before n (Add place number) homes asks goes = record { goes = goes; words = refl }
settles k reply before n (Max place number) homes asks goes = record { goes = goes; words = refl }
settles k reply before n (Done its) homes asks goes = record { goes = goes; words = refl }

-- the whole step
pub record HasMoved (k : Seat) (n after : Near SessionState) (ask : Ask Told) : Type 0 where
  pub goes : SessionGoes k.places (reply_to n.words ask) (session_part n.machine) after.machine
  pub words : after.words ≡ words_after n.words ask

went_on : (k : Seat) (n : Near SessionState) (ask : Ask Told) → Homes k → SittingKnows k.places n.machine n.machine.step → HasMoved k n (session_settled k (session_replied k n ask) (session_ask k (session_replied k n ask).machine)) ask
went_on k n ask homes knows =
    let its = settles k (reply_to n.words ask) (session_part n.machine) (session_replied k n ask) (session_ask k (session_replied k n ask).machine) homes refl (session_goes k n.machine (reply_to n.words ask) homes knows) in
    record { goes = its.goes; words = its.words }

pub moves_on : (k : Seat) (n : Near SessionState) (ask : Ask Told) → Homes k → session_ask k n.machine ≡ ask → SittingKnows k.places n.machine n.machine.step → HasMoved k n (session_asks k n ask) ask
unfolding session_asks session_settled
moves_on k n (Done its) homes asks knows = record { goes = idles k n.machine knows (nothing k n.machine (Done its) asks refl knows); words = refl }
moves_on k n (Put slot action) homes asks knows = record { goes = session_goes k n.machine 0 homes knows; words = refl }
moves_on k n (Take slot) homes asks knows = record { goes = gets k n.machine (action_at n.actions slot) knows (nothing k n.machine (Take slot) asks refl knows); words = refl }
moves_on k n (Load place) homes asks knows = went_on k n (Load place) homes knows
moves_on k n (Store place word) homes asks knows = went_on k n (Store place word) homes knows
moves_on k n (Swap place word) homes asks knows = went_on k n (Swap place word) homes knows
moves_on k n (Cas place old new) homes asks knows = went_on k n (Cas place old new) homes knows
moves_on k n (Add place number) homes asks knows = went_on k n (Add place number) homes knows
moves_on k n (Max place number) homes asks knows = went_on k n (Max place number) homes knows
