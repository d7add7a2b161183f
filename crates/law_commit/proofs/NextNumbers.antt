-- As long as rest is of the version behind the newest finished commit's number, each commit that begins has that number.
use Rattle.std.proofs.Common.{◌≡◌, ◌⊎◌, inl, inr, ℕ, ◌+◌, ◌<◌, ◌^◌, ◌∙◌, List, [], ◌∷◌, ◌++◌, refl, arith, sym, subst, Bool, true, false}
use Rattle.std.specs.Prelude.{⊤, Option, Some, None, if◌then◌else◌, nat_le}
use Rattle.std.proofs.lemmas.Bool.Decides.{nat_tests}
use Rattle.fkv_base.specs.Limits.{last_of}
use Rattle.fkv_base.specs.declared.numbers.Addr.{Addr}
use Rattle.fkv_base.specs.declared.numbers.Version.{Version}
use Rattle.fkv_base.specs.declared.phases.Phase.TheVariants as phase
use Rattle.fkv_base.specs.declared.shapes.Shape.{Shape}
use Rattle.fkv_words.specs.declared.phase_words.PhaseSaid.{PhaseSaid}
use Rattle.fkv_words.specs.declared.phase_words.PhaseSaid.TheVariants.{Says, Spoiled}
use Rattle.fkv_words.specs.PhaseWords.{phase_said}
use Rattle.fkv_plane.specs.declared.actions.Action.{Action}
use Rattle.fkv_plane.specs.declared.asks.Ask.{Ask}
use Rattle.fkv_plane.specs.declared.asks.Ask.TheVariants.{Load, Store, Swap, Cas, Add, Max, Put, Take, Done}
use Rattle.fkv_plane.specs.declared.places.Places.{Places}
use Rattle.fkv_plane.specs.declared.places.SharedWord.TheVariants as one
use Rattle.fkv_plane.specs.Asked.{reply_to, word_at}
use Rattle.fkv_plane.specs.Passing.{passed}
use Rattle.fkv_plane.specs.Places.{shared_place}
use Rattle.fkv_plane.specs.Plane.{action_at}
use Rattle.fkv_base.specs.declared.commits.CommitKind.{CommitKind}
use Rattle.law_refine.specs.Below.fkv_commit.DeferAnswer.{DeferAnswer}
use Rattle.law_refine.specs.Below.fkv_commit.DeferAnswer.TheVariants.{Held, Spent, Armed}
use Rattle.law_refine.specs.Below.fkv_commit.StartAnswer.{StartAnswer}
use Rattle.law_refine.specs.Below.fkv_commit.StartAnswer.TheVariants as start
use Rattle.law_refine.specs.Below.fkv_commit.TheStarting.{Starting}
use Rattle.law_refine.specs.Below.fkv_commit.TheStarting.TheVariants as starting
use Rattle.law_refine.specs.Below.fkv_commit.Deferring.{defer_ask, defer_next}
use Rattle.law_refine.proofs.Below.fkv_commit.Shown.{last_low}
use Rattle.law_refine.specs.Below.fkv_commit.Starting.{StartState, defer_led, is_lost_full, phase_found, seek_led, start_ask, start_next, starting_ask, starting_next}
use Rattle.law_refine.specs.Below.fkv_keeper.KeeperTold.{KeeperTold}
use Rattle.law_refine.specs.Below.fkv_keeper.KeeperTold.TheVariants.{Device}
use Rattle.law_refine.specs.Below.fkv_keeper.TheKeeping.{Keeping}
use Rattle.law_refine.specs.Below.fkv_keeper.TheKeeping.TheVariants.{Ended, Starts, Maintains, LoadsPhase, Enters, Copies, Seeks, Waits, Writes, Finishes, Sweeps}
use Rattle.law_refine.specs.Below.fkv_keeper.CheckpointLaws.{MayFollow}
use Rattle.law_refine.specs.Below.fkv_keeper.Keeping.{KeeperState, commit_asked, keeper_ask, keeper_next, keeping_ask, keeping_given, keeping_next, keeping_called, start_ledto, turn_asked}
use Rattle.law_refine.specs.Below.fkv_keeper.KeeperRun.{KeeperEvent, BeginsTurn, BeginsCommit, Replies, Gets, Calls, IsOpened, begins, is_in_hand, keeper_happens, keeper_run}
use Rattle.law_refine.proofs.Below.fkv_keeper.Shown.{each_move}
use Rattle.law_refine.specs.Below.law_world.Standing.Opening.{AreNumbersInTurn, IsNumberInTurn}
use Rattle.law_refine.specs.Below.fkv_world.Moves.{Near}
use Rattle.law_refine.specs.Below.fkv_world.Opened.{IsOpenedWorld}
use Rattle.law_refine.specs.Below.fkv_world.OwnEvents.{keeper_got, keeper_slots, keeper_steps, keeper_part, keeper_part_of, keeper_events}
use Rattle.law_refine.specs.Below.fkv_world.Runs.{World, read_by_keeper, run}
use Rattle.law_refine.specs.Below.fkv_world.World as world
use Rattle.law_refine.specs.Below.fkv_world.World.{Event, Commits, KeeperMoves, Crashes, near}
use Rattle.law_refine.proofs.Below.fkv_world.Shown.{keeper_runs, keeper_runs_on, places_stay, shape_stays}
use Rattle.law_commit.specs.PhaseVersions.{RestIsNext, RestsAreNext}
use Rattle.law_commit.proofs.InRest.{follows_or_writes}

-- a commit that starts has the next number, once it has one
abbrev IsNext : ℕ → Version → Type 0
IsNext last number = (number.0 ≡ last + 1) × (number.0 < 2 ^ 64)

abbrev BeginsNext : ℕ → StartAnswer → Type 0
BeginsNext last (start.Begun number first) = IsNext last number
BeginsNext last its = ⊤

abbrev NumberIsNext : ℕ → Starting → Type 0
NumberIsNext last (starting.Ended its) = BeginsNext last its
NumberIsNext last starting.LoadsPhase = ⊤
NumberIsNext last (starting.Seeks number) = IsNext last number
NumberIsNext last (starting.StoresPrepare number) = IsNext last number
NumberIsNext last (starting.LoadsTail number) = IsNext last number
NumberIsNext last (starting.Defers number first) = IsNext last number

-- what the phase word says as it is loaded
abbrev SaysNext : ℕ → Starting → ℕ → Type 0
SaysNext last starting.LoadsPhase reply = RestIsNext last (phase_said reply)
SaysNext last step reply = ⊤

either_next : (last : ℕ) (c : Bool) (a b : StartState) → (c ≡ true → NumberIsNext last a.step) → (c ≡ false → NumberIsNext last b.step) → NumberIsNext last (if c then a else b).step
either_next last true a b one other = one refl
either_next last false a b one other = other refl

found_next : (last : ℕ) (s : StartState) (said : PhaseSaid) → RestIsNext last said → NumberIsNext last (phase_found s said).step
found_next last s Spoiled says = tt
found_next last s (Says phase.Rest number) says =
    either_next last (nat_le (last_of s.asked.class) number.0) _ _ (λ spent. tt)
    (λ left. either_next last (is_lost_full s.asked number.0) _ _ (λ full. tt) (λ has. let low = last_low s.asked.class number.0 (grind (arith, nat_tests, left)) in (says, omega (arith, low))))
found_next last s (Says phase.Prepare number) says = tt
found_next last s (Says phase.InProgress number) says = tt
found_next last s (Says phase.WaitPending number) says = tt
found_next last s (Says phase.WaitFlush number) says = tt

seek_next : (last : ℕ) (number : Version) (s : StartState) (ask : Ask DeferAnswer) → IsNext last number → NumberIsNext last s.step → NumberIsNext last (seek_led number s ask).step
unfolding seek_led
seek_next last number s (Done Held) next its = next
seek_next last number s (Done Spent) next its = tt
seek_next last number s (Done other) next its = tt
seek_next last number s ask next its = its

defer_next_number : (last : ℕ) (number : Version) (first : Addr) (s : StartState) (ask : Ask DeferAnswer) → IsNext last number → NumberIsNext last s.step → NumberIsNext last (defer_led number first s ask).step
unfolding defer_led
defer_next_number last number first s (Done (Armed epoch)) next its = next
defer_next_number last number first s (Done other) next its = tt
defer_next_number last number first s ask next its = its

starts_next : (last : ℕ) (s : StartState) (step : Starting) (reply : ℕ) → s.step ≡ step → NumberIsNext last step → SaysNext last step reply → NumberIsNext last (starting_next s step reply).step
unfolding starting_next
starts_next last s (starting.Ended its) reply e next says = rw e next
starts_next last s starting.LoadsPhase reply e next says = found_next last s (phase_said reply) says
starts_next last s (starting.Seeks number) reply e next says = seek_next last number (record s { defer = defer_next s.defer reply }) _ next (rw e next)
starts_next last s (starting.StoresPrepare number) reply e next says = next
starts_next last s (starting.LoadsTail number) reply e next says = next
starts_next last s (starting.Defers number first) reply e next says = defer_next_number last number first (record s { defer = defer_next s.defer reply }) _ next (rw e next)

-- so of the keeper, where a commit starts
abbrev StartsNextAt : KeeperState → Keeping → Type 0
StartsNextAt s Starts = NumberIsNext s.last.number.0 s.start.step
StartsNextAt s step = ⊤

record IsTurn (last : Version) (step : Keeping) (a : KeeperState) : Type 0 where
  turn : IsNumberInTurn last step a.step
  starts : StartsNextAt a a.step

abbrev TellsNext : ℕ → Ask StartAnswer → Type 0
TellsNext last (Done its) = BeginsNext last its
TellsNext last ask = ⊤

passed_next : (last : ℕ) (ask : Ask DeferAnswer) → TellsNext last (passed ask start.Idle)
unfolding passed
passed_next last (Done its) = tt
passed_next last ask = tt

tells_next : (last : ℕ) (s : StartState) (step : Starting) → NumberIsNext last step → TellsNext last (starting_ask s step)
unfolding starting_ask
tells_next last s (starting.Ended its) next = next
tells_next last s (starting.Seeks number) next = passed_next last (defer_ask s.defer)
tells_next last s (starting.Defers number first) next = passed_next last (defer_ask s.defer)
tells_next last s step next = tt

led_turn : (s : KeeperState) (ask : Ask StartAnswer) → s.step ≡ Starts → NumberIsNext s.last.number.0 s.start.step → TellsNext s.last.number.0 ask → IsTurn s.last.number Starts (start_ledto s ask)
unfolding start_ledto
led_turn s (Done (start.Begun number first)) e next tells = record { turn = tells; starts = tt }
led_turn s (Done (start.Refused why)) e next tells = record { turn = tt; starts = tt }
led_turn s (Done start.Idle) e next tells = record { turn = tt; starts = tt }
led_turn s ask e next tells = record { turn = rw e tt; starts = rw e next }

-- what a reply tells the start
abbrev SaysAt : KeeperState → Keeping → KeeperEvent → Type 0
SaysAt s Starts (Replies reply granted) = SaysNext s.last.number.0 s.start.step reply
SaysAt s step event = ⊤

start_replied : (s : KeeperState) (reply : ℕ) → s.step ≡ Starts → NumberIsNext s.last.number.0 s.start.step → SaysNext s.last.number.0 s.start.step reply
    → IsTurn s.last.number Starts (start_ledto (record s { start = start_next s.start reply }) (start_ask (start_next s.start reply)))
start_replied s reply e next says =
    let after : StartState = start_next s.start reply in
    let its : NumberIsNext s.last.number.0 after.step = starts_next s.last.number.0 s.start s.start.step reply refl next says in
    led_turn (record s { start = after }) (start_ask after) e its (tells_next s.last.number.0 after after.step its)

-- where none starts, none is behind an event but where a commit is asked for
abbrev StartsNone : Keeping → Type 0
StartsNone (Ended its) = ⊥
StartsNone Starts = ⊥
StartsNone step = Unit {0}

none_starts : (a : KeeperState) (step after : Keeping) → StartsNone step → MayFollow step after → StartsNextAt a after
none_starts a (Ended its) after none may = absurd none
none_starts a Starts after none may = absurd none
none_starts a Maintains Starts none may = absurd may
none_starts a LoadsPhase Starts none may = absurd may
none_starts a Enters Starts none may = absurd may
none_starts a Copies Starts none may = absurd may
none_starts a Sweeps Starts none may = absurd may
none_starts a Seeks Starts none may = absurd may
none_starts a Waits Starts none may = absurd may
none_starts a Writes Starts none may = absurd may
none_starts a Finishes Starts none may = absurd may
none_starts a step after none may = tt

no_turn : (last : Version) (step after : Keeping) → StartsNone step → IsNumberInTurn last step after
no_turn last (Ended its) after none = tt
no_turn last Starts after none = absurd none
no_turn last step after none = tt

broken_starts : (c : Bool) (a b : KeeperState) → StartsNextAt a a.step → StartsNextAt b b.step → StartsNextAt (if c then a else b) (if c then a else b).step
broken_starts true a b one other = one
broken_starts false a b one other = other

stays_so : (s : KeeperState) (step : Keeping) → s.step ≡ step → StartsNextAt s step → StartsNextAt s s.step
stays_so s step e its = subst (λ (x : Keeping). StartsNextAt s x) (sym e) its

start_stays : (s : KeeperState) → s.step ≡ Starts → NumberIsNext s.last.number.0 s.start.step → IsTurn s.last.number Starts s
start_stays s e next = record { turn = rw e tt; starts = stays_so s Starts e next }

other_turn : (shape : Shape) (p : Places) (s : KeeperState) (step : Keeping) (event : KeeperEvent) → s.step ≡ step → StartsNone step → IsTurn s.last.number step (keeper_happens shape p s event)
other_turn shape p s step event e none =
    let a : KeeperState = keeper_happens shape p s event in
    record { turn = no_turn s.last.number step a.step none; starts = by a (follows_or_writes s.rests s.step a.step (each_move shape p s event).one.steps) }
  where
    by : (a : KeeperState) → MayFollow s.step a.step ⊎ (a.step ≡ Writes) → StartsNextAt a a.step
    by a (inl follows) = none_starts a step a.step none (subst (λ (x : Keeping). MayFollow x a.step) e follows)
    by a (inr writes) = stays_so a Writes writes tt

turn_by : (shape : Shape) (p : Places) (s : KeeperState) (step : Keeping) (event : KeeperEvent) → s.step ≡ step → StartsNextAt s step → SaysAt s step event → IsTurn s.last.number step (keeper_happens shape p s event)
unfolding keeper_happens keeping_next keeping_given keeping_called
turn_by shape p s Starts (Replies reply granted) e next says = subst (λ (x : Keeping). IsTurn s.last.number Starts (keeping_next shape p s x reply granted)) (sym e) (start_replied s reply e next says)
turn_by shape p s Starts (Gets action) e next says = subst (λ (x : Keeping). IsTurn s.last.number Starts (keeping_given shape p s x action)) (sym e) (start_stays s e next)
turn_by shape p s Starts (Calls done bytes) e next says = subst (λ (x : Keeping). IsTurn s.last.number Starts (keeping_called shape p s x done bytes)) (sym e) (start_stays s e next)
turn_by shape p s Starts BeginsTurn e next says = subst (λ (x : Keeping). IsTurn s.last.number Starts (begins s (is_in_hand x) (turn_asked s))) (sym e) (start_stays s e next)
turn_by shape p s Starts (BeginsCommit kind) e next says = subst (λ (x : Keeping). IsTurn s.last.number Starts (begins s (is_in_hand x) (commit_asked s kind))) (sym e) (start_stays s e next)
turn_by shape p s (Ended its) (Replies reply granted) e next says = rw e (record { turn = tt; starts = tt })
turn_by shape p s (Ended its) (Gets action) e next says = rw e (record { turn = tt; starts = tt })
turn_by shape p s (Ended its) (Calls done bytes) e next says = rw e (record { turn = tt; starts = tt })
turn_by shape p s (Ended its) BeginsTurn e next says = rw e (record { turn = tt; starts = broken_starts s.is_broken _ _ tt tt })
turn_by shape p s (Ended its) (BeginsCommit kind) e next says = rw e (record { turn = tt; starts = broken_starts s.is_broken _ _ tt (broken_starts s.rests _ _ tt tt) })
turn_by shape p s Maintains event e next says = other_turn shape p s Maintains event e tt
turn_by shape p s LoadsPhase event e next says = other_turn shape p s LoadsPhase event e tt
turn_by shape p s Enters event e next says = other_turn shape p s Enters event e tt
turn_by shape p s Copies event e next says = other_turn shape p s Copies event e tt
turn_by shape p s Sweeps event e next says = other_turn shape p s Sweeps event e tt
turn_by shape p s Seeks event e next says = other_turn shape p s Seeks event e tt
turn_by shape p s Waits event e next says = other_turn shape p s Waits event e tt
turn_by shape p s Writes event e next says = other_turn shape p s Writes event e tt
turn_by shape p s Finishes event e next says = other_turn shape p s Finishes event e tt

-- over events that tell it so
unfoldable SayAll : Shape → Places → KeeperState → List KeeperEvent → Type 0
SayAll shape p s [] = ⊤
SayAll shape p s (event ∷ before) = SaysAt (keeper_run shape p s before) (keeper_run shape p s before).step event × SayAll shape p s before

record AreTurns (shape : Shape) (p : Places) (s : KeeperState) (events : List KeeperEvent) : Type 0 where
  turns : AreNumbersInTurn shape p s events
  starts : StartsNextAt (keeper_run shape p s events) (keeper_run shape p s events).step

run_turns : (shape : Shape) (p : Places) (s : KeeperState) (events : List KeeperEvent) → StartsNextAt s s.step → SayAll shape p s events → AreTurns shape p s events
unfolding AreNumbersInTurn SayAll keeper_run
run_turns shape p s [] next say = record { turns = tt; starts = next }
run_turns shape p s (event ∷ before) next say =
    let past = run_turns shape p s before next say.1 in
    let a : KeeperState = keeper_run shape p s before in
    let one = turn_by shape p a a.step event refl past.starts say.0 in
    record { turns = (one.turn, past.turns); starts = one.starts }

joined : (shape : Shape) (p : Places) (first : KeeperState) (later before : List KeeperEvent) → AreNumbersInTurn shape p (keeper_run shape p first before) later → AreNumbersInTurn shape p first before
    → AreNumbersInTurn shape p first (later ++ before)
unfolding AreNumbersInTurn
joined shape p first [] before turns past = past
joined shape p first (event ∷ later) before turns past =
    (rw (keeper_runs_on shape p first later before, keeper_runs_on shape p first (event ∷ later) before) turns.0, joined shape p first later before turns.1 past)

-- the load of the phase, as a commit starts
start_says : (last : ℕ) (s : StartState) (step : Starting) (told : KeeperTold) (reply : ℕ) → (passed (starting_ask s step) told ≡ Load (shared_place one.Phase) → RestIsNext last (phase_said reply)) → SaysNext last step reply
unfolding passed starting_ask
start_says last s starting.LoadsPhase told reply right = right refl
start_says last s (starting.Ended its) told reply right = tt
start_says last s (starting.Seeks number) told reply right = tt
start_says last s (starting.StoresPrepare number) told reply right = tt
start_says last s (starting.LoadsTail number) told reply right = tt
start_says last s (starting.Defers number first) told reply right = tt

says_so : (shape : Shape) (p : Places) (s : KeeperState) (step : Keeping) (reply : ℕ) (granted : Bool) → (keeping_ask shape p s step ≡ Load (shared_place one.Phase) → RestIsNext s.last.number.0 (phase_said reply))
    → SaysAt s step (Replies reply granted)
unfolding keeping_ask
says_so shape p s Starts reply granted right = start_says s.last.number.0 s.start s.start.step _ reply right
says_so shape p s (Ended its) reply granted right = tt
says_so shape p s Maintains reply granted right = tt
says_so shape p s LoadsPhase reply granted right = tt
says_so shape p s Enters reply granted right = tt
says_so shape p s Copies reply granted right = tt
says_so shape p s Sweeps reply granted right = tt
says_so shape p s Seeks reply granted right = tt
says_so shape p s Waits reply granted right = tt
says_so shape p s Writes reply granted right = tt
says_so shape p s Finishes reply granted right = tt

replied_so : (shape : Shape) (p : Places) (words : List ℕ) (s : KeeperState) (ask : Ask KeeperTold) (granted : Bool) → keeper_ask shape p s ≡ ask → RestIsNext s.last.number.0 (phase_said (word_at words (shared_place one.Phase)))
    → SaysAt s s.step (Replies (reply_to words ask) granted)
replied_so shape p words s ask granted e next =
    says_so shape p s s.step (reply_to words ask) granted (λ loads. subst (λ (x : Ask KeeperTold). RestIsNext s.last.number.0 (phase_said (reply_to words x))) (sym (sym e ∙ loads)) next)

no_load : (ask : Ask KeeperTold) (slot : ℕ) (action : Action) → ask ≡ Put slot action → ask ≡ Load (shared_place one.Phase) → ⊥
no_load ask slot action e loads = cc

put_so : (shape : Shape) (p : Places) (s : KeeperState) (slot : ℕ) (action : Action) (granted : Bool) → keeper_ask shape p s ≡ Put slot action → SaysAt s s.step (Replies 0 granted)
put_so shape p s slot action granted e = says_so shape p s s.step 0 granted (λ loads. absurd (no_load (keeper_ask shape p s) slot action e loads))

gets_all : (shape : Shape) (p : Places) (s a : KeeperState) (action : Action) (step : Keeping) → SaysAt a step (Gets action)
gets_all shape p s a action Starts = tt
gets_all shape p s a action step = tt

called_so : (s : KeeperState) (step : Keeping) (done : Bool) (read : List ℕ) → SaysAt s step (Calls done read)
called_so s Starts done read = tt
called_so s step done read = tt

asked_so : (s : KeeperState) (step : Keeping) (kind : CommitKind) → SaysAt s step (BeginsCommit kind)
asked_so s Starts kind = tt
asked_so s step kind = tt

turns_so : (s : KeeperState) (step : Keeping) → SaysAt s step BeginsTurn
turns_so s Starts = tt
turns_so s step = tt

nothing_said : (shape : Shape) (p : Places) (s : KeeperState) → SayAll shape p s []
unfolding SayAll
nothing_said shape p s = tt

got_all : (shape : Shape) (p : Places) (s : KeeperState) (before : List KeeperEvent) (found : Option Action) → SayAll shape p s before → SayAll shape p s (keeper_got found ++ before)
unfolding SayAll
got_all shape p s before None say = say
got_all shape p s before (Some action) say = (gets_all shape p s (keeper_run shape p s before) action (keeper_run shape p s before).step, say)

got_one : (shape : Shape) (p : Places) (s : KeeperState) (found : Option Action) → SayAll shape p s (keeper_got found)
unfolding SayAll keeper_run
got_one shape p s None = tt
got_one shape p s (Some action) = (gets_all shape p s s action s.step, tt)

slots_all : (shape : Shape) (p : Places) (actions : List (Option Action)) (granted : Bool) (s : KeeperState) (before : List KeeperEvent) (ask : Ask KeeperTold) → keeper_ask shape p (keeper_run shape p s before) ≡ ask
    → SayAll shape p s before → SayAll shape p s (keeper_slots actions granted ask ++ before)
unfolding SayAll keeper_slots
slots_all shape p actions granted s before (Put slot action) e say = (put_so shape p (keeper_run shape p s before) slot action granted e, say)
slots_all shape p actions granted s before (Take slot) e say = got_all shape p s before (action_at actions slot) say
slots_all shape p actions granted s before (Load place) e say = say
slots_all shape p actions granted s before (Store place new) e say = say
slots_all shape p actions granted s before (Swap place new) e say = say
slots_all shape p actions granted s before (Cas place old new) e say = say
slots_all shape p actions granted s before (Add place n) e say = say
slots_all shape p actions granted s before (Max place n) e say = say
slots_all shape p actions granted s before (Done its) e say = say

word_all : (shape : Shape) (p : Places) (n : Near KeeperState) (granted : Bool) (ask : Ask KeeperTold) → keeper_ask shape p n.machine ≡ ask → RestIsNext n.machine.last.number.0 (phase_said (word_at n.words (shared_place one.Phase)))
    → SayAll shape p n.machine (keeper_slots n.actions granted (keeper_ask shape p (keeper_next shape p n.machine (reply_to n.words ask) granted)) ++ Replies (reply_to n.words ask) granted ∷ [])
unfolding SayAll keeper_run keeper_happens
word_all shape p n granted ask e next =
    slots_all shape p n.actions granted n.machine (Replies (reply_to n.words ask) granted ∷ []) (keeper_ask shape p (keeper_next shape p n.machine (reply_to n.words ask) granted)) refl
    (replied_so shape p n.words n.machine ask granted e next, tt)

steps_all : (shape : Shape) (p : Places) (granted done : Bool) (read : List ℕ) (n : Near KeeperState) (ask : Ask KeeperTold) → keeper_ask shape p n.machine ≡ ask
    → RestIsNext n.machine.last.number.0 (phase_said (word_at n.words (shared_place one.Phase))) → SayAll shape p n.machine (keeper_steps shape p granted done read n ask)
unfolding keeper_steps keeper_slots SayAll keeper_run
steps_all shape p granted done read n (Done Device) e next = (called_so n.machine n.machine.step done read, tt)
steps_all shape p granted done read n (Done its) e next = tt
steps_all shape p granted done read n (Put slot action) e next = (put_so shape p n.machine slot action granted e, tt)
steps_all shape p granted done read n (Take slot) e next = got_one shape p n.machine (action_at n.actions slot)
steps_all shape p granted done read n (Load place) e next = word_all shape p n granted (Load place) e next
steps_all shape p granted done read n (Store place new) e next = word_all shape p n granted (Store place new) e next
steps_all shape p granted done read n (Swap place new) e next = word_all shape p n granted (Swap place new) e next
steps_all shape p granted done read n (Cas place old new) e next = word_all shape p n granted (Cas place old new) e next
steps_all shape p granted done read n (Add place count) e next = word_all shape p n granted (Add place count) e next
steps_all shape p granted done read n (Max place count) e next = word_all shape p n granted (Max place count) e next

part_all : (shape : Shape) (p : Places) (read : List ℕ) (n : Near KeeperState) (event : Event) → RestIsNext n.machine.last.number.0 (phase_said (word_at n.words (shared_place one.Phase)))
    → SayAll shape p n.machine (keeper_part shape p read n event)
unfolding keeper_part SayAll keeper_run
part_all shape p read n (Commits kind) next = (asked_so n.machine n.machine.step kind, tt)
part_all shape p read n world.Turns next = (turns_so n.machine n.machine.step, tt)
part_all shape p read n (KeeperMoves granted done) next = steps_all shape p granted done read n (keeper_ask shape p n.machine) refl next
part_all shape p read n (world.Calls number call) next = tt
part_all shape p read n (world.Moves number) next = tt
part_all shape p read n Crashes next = tt

either_all : (c : Bool) (shape : Shape) (p : Places) (s : KeeperState) (a b : List KeeperEvent) → SayAll shape p s a → SayAll shape p s b → SayAll shape p s (if c then a else b)
either_all true shape p s a b one other = one
either_all false shape p s a b one other = other

of_all : (w : World) (event : Event) → RestIsNext w.now.keeper.last.number.0 (phase_said (word_at w.now.words (shared_place one.Phase))) → SayAll w.now.shape w.now.places w.now.keeper (keeper_part_of w event)
of_all w event next =
    either_all w.now.crashed w.now.shape w.now.places w.now.keeper [] _ (nothing_said w.now.shape w.now.places w.now.keeper)
    (part_all w.now.shape w.now.places (read_by_keeper w) (near w.now w.now.keeper) event next)

same_all : (shape its : Shape) (p q : Places) (s t : KeeperState) (events : List KeeperEvent) → shape ≡ its → p ≡ q → s ≡ t → SayAll shape p s events → SayAll its q t events
same_all shape its p q s t events e f g say = subst (λ (x : KeeperState). SayAll its q x events) g (subst (λ (x : Places). SayAll its x s events) f (subst (λ (x : Shape). SayAll x p s events) e say))

opened_next : (s : KeeperState) (step : Keeping) → is_in_hand step ≡ false → StartsNextAt s step
opened_next s (Ended its) idle = tt
opened_next s step idle = cc

-- over a life
life_turns : (opening : World) (events : List Event) → IsOpened opening.now.keeper → RestsAreNext opening events
    → AreTurns opening.now.shape opening.now.places opening.now.keeper (keeper_events opening events)
unfolding keeper_events RestsAreNext AreNumbersInTurn keeper_run
life_turns opening [] opened next = record { turns = tt; starts = opened_next opening.now.keeper opening.now.keeper.step opened.none_in_hand }
life_turns opening (event ∷ before) opened next =
    let w : World = run opening before in
    let first : KeeperState = opening.now.keeper in
    let s : KeeperState = keeper_run opening.now.shape opening.now.places first (keeper_events opening before) in
    let part : List KeeperEvent = keeper_part_of w event in
    let past = life_turns opening before opened next.1 in
    let say = same_all w.now.shape opening.now.shape w.now.places opening.now.places w.now.keeper s part (shape_stays opening before) (places_stay opening before) (keeper_runs opening before) (of_all w event next.0) in
    let one = run_turns opening.now.shape opening.now.places s part past.starts say in
    record {
      turns = joined opening.now.shape opening.now.places first part (keeper_events opening before) one.turns past.turns;
      starts = subst (λ (x : KeeperState). StartsNextAt x x.step) (sym (keeper_runs_on opening.now.shape opening.now.places first part (keeper_events opening before))) one.starts;
    }

pub numbers_in_turn : (opening : World) (events : List Event) → IsOpenedWorld opening → RestsAreNext opening events
    → AreNumbersInTurn opening.now.shape opening.now.places opening.now.keeper (keeper_events opening events)
numbers_in_turn opening events opened next = (life_turns opening events opened.keeper next).turns
