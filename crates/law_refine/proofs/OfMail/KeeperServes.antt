-- How the keeper serves mailboxes: how far it is after what may happen to it.
use Rattle.std.proofs.Common.{◌≡◌, ℕ, ◌∙◌, refl, sym, ap, subst, inl, inr, List, [], ◌∷◌, ◌++◌, Bool, true, false}
use Rattle.std.specs.Prelude.{⊤, if◌then◌else◌, nat_lt, Option, Some, None}
use Rattle.fkv_base.specs.declared.shapes.Shape.{Shape}
use Rattle.fkv_plane.specs.declared.actions.Action.{Action}
use Rattle.fkv_plane.specs.declared.asks.Ask.{Ask}
use Rattle.fkv_plane.specs.declared.asks.Ask.TheVariants.{Load, Store, Swap, Cas, Add, Max, Put, Take, Done}
use Rattle.fkv_plane.specs.declared.places.Places.{Places}
use Rattle.fkv_plane.specs.Asked.{reply_to, words_after}
use Rattle.fkv_plane.specs.Passing.{passed}
use Rattle.fkv_plane.specs.Plane.{action_at}
use Rattle.law_world.specs.Below.fkv_flush.TheServing.{Serving}
use Rattle.law_world.specs.Below.fkv_flush.TheServing.TheVariants as serve
use Rattle.law_world.specs.Below.fkv_flush.Serving.{serve_ask, serve_next, serve_read, mailbox_from}
use Rattle.law_world.specs.Below.fkv_maintain.TheMaintaining.{Maintaining}
use Rattle.law_world.specs.Below.fkv_maintain.TheMaintaining.TheVariants.{Through, Spent, Broken, Scans, Claims, Flushes, Shifts, Turns, Serves}
use Rattle.law_world.specs.Below.fkv_maintain.MaintainRun.{MaintainEvent, maintain_happens}
use Rattle.law_world.specs.Below.fkv_maintain.Maintaining.{MaintainState, device_asked, maintaining_ask, maintain_ask, serve_ledto, maintaining_next, maintaining_called}
use Rattle.law_world.specs.Below.fkv_maintain.Parts.{MayFollow}
use Rattle.law_world.proofs.Below.fkv_maintain.Shown.{follows_in_order}
use Rattle.law_world.specs.Below.fkv_keeper.KeeperTold.{KeeperTold}
use Rattle.law_world.specs.Below.fkv_keeper.KeeperTold.TheVariants.{Device}
use Rattle.law_world.specs.Below.fkv_keeper.TheKeeping.{Keeping}
use Rattle.law_world.specs.Below.fkv_keeper.TheKeeping.TheVariants.{Ended, Maintains}
use Rattle.law_world.specs.Below.fkv_keeper.KeeperRun.{KeeperEvent, Replies, Gets, Calls, is_in_hand, keeper_happens, keeper_run}
use Rattle.law_world.specs.Below.fkv_keeper.Keeping.{KeeperState, end_told, parts_begun, serves_alone, turn_over, device_passed, keeping_ask, keeper_ask, keeper_next, keeper_called, maintain_ledto, keeping_next, keeping_called}
use Rattle.law_world.specs.Below.fkv_world.Moves.{Near}
use Rattle.law_world.specs.Below.fkv_world.OwnEvents.{keeper_got, keeper_slots, keeper_steps}
use Rattle.law_world.proofs.Below.fkv_world.Shown.{keeper_runs_on}
use Rattle.law_refine.specs.Mail.Servers.{maintain_serving, keeper_serving, serving_of, begin_of}
use Rattle.law_refine.proofs.OfMail.KeeperParts.{TurnsWith, happens_with}

-- it is at the last part of a turn
abbrev is_last_part : Maintaining → Bool
is_last_part Serves = true
is_last_part step = false

abbrev pub is_at_serve : KeeperState → Keeping → Bool
is_at_serve s Maintains = is_last_part s.maintain.step
is_at_serve s step = false

-- it has found nothing asked for
abbrev pub IsIdle : Serving → Type 0
IsIdle serve.AtRest = ⊤
IsIdle (serve.LoadsState session) = ⊤
IsIdle step = ⊥

pub first_idle : (sessions session : ℕ) → IsIdle (mailbox_from sessions session)
unfolding mailbox_from
first_idle sessions session = by_test (nat_lt session sessions)
  where
    by_test : (b : Bool) → IsIdle (if b then serve.LoadsState session else serve.AtRest)
    by_test true = tt
    by_test false = tt

abbrev PartIsIdle : MaintainState → Type 0
PartIsIdle m = IsIdle (maintain_serving m m.step)

part_at : (m : MaintainState) (step : Maintaining) → m.step ≡ step → IsIdle (maintain_serving m step) → PartIsIdle m
part_at m step at idle = subst (λ (x : Maintaining). IsIdle (maintain_serving m x)) (sym at) idle

part_follows : (shape : Shape) (p : Places) (m : MaintainState) (step : Maintaining) (event : MaintainEvent) (next : MaintainState) → m.step ≡ step → is_last_part step ≡ false → MayFollow shape p m step event next → PartIsIdle next
part_follows shape p m Scans event next at other (inl same) = part_at next Scans same tt
part_follows shape p m Scans event next at other (inr its) = part_at next Claims its.comes tt
part_follows shape p m Claims event next at other (inl same) = part_at next Claims same tt
part_follows shape p m Claims event next at other (inr its) = part_at next Flushes its.comes tt
part_follows shape p m Flushes event next at other (inl same) = part_at next Flushes same tt
part_follows shape p m Flushes event next at other (inr (inl its)) = part_at next Shifts its.comes tt
part_follows shape p m Flushes event next at other (inr (inr its)) = part_at next Broken its.comes tt
part_follows shape p m Shifts event next at other (inl same) = part_at next Shifts same tt
part_follows shape p m Shifts event next at other (inr (inl its)) = part_at next Turns its.comes tt
part_follows shape p m Shifts event next at other (inr (inr its)) = part_at next Spent its.comes tt
part_follows shape p m Turns event next at other (inl same) = part_at next Turns same tt
part_follows shape p m Turns event next at other (inr (inl its)) = elim its.comes [
  | inl serves ↦ part_at next Serves serves (subst IsIdle (sym its.first) (first_idle shape.sessions 0))
  | inr through ↦ part_at next Through through.0 tt
]
part_follows shape p m Turns event next at other (inr (inr its)) = part_at next Spent its.comes tt
part_follows shape p m Serves event next at other follows = cc
part_follows shape p m Through event next at other follows = part_at next Through (ap (λ (x : MaintainState). x.step) follows ∙ at) tt
part_follows shape p m Spent event next at other follows = part_at next Spent (ap (λ (x : MaintainState). x.step) follows ∙ at) tt
part_follows shape p m Broken event next at other follows = part_at next Broken (ap (λ (x : MaintainState). x.step) follows ∙ at) tt

part_idle : (shape : Shape) (p : Places) (m : MaintainState) (event : MaintainEvent) → is_last_part m.step ≡ false → PartIsIdle (maintain_happens shape p m event)
part_idle shape p m event other = part_follows shape p m m.step event (maintain_happens shape p m event) refl other (follows_in_order shape p m event)

-- what is so of a turn's last part is so of the serving
turn_idle : (s : KeeperState) (step : Keeping) → TurnsWith PartIsIdle s step → IsIdle (keeper_serving s step)
turn_idle s Maintains its = its
turn_idle s step its = tt

other_part : (m : MaintainState) (step : Maintaining) → is_last_part step ≡ false → IsIdle (maintain_serving m step)
other_part m Serves other = cc
other_part m step other = tt

not_serving : (s : KeeperState) (step : Keeping) → is_at_serve s step ≡ false → TurnsWith PartIsIdle s step
not_serving s Maintains other = other_part s.maintain s.maintain.step other
not_serving s step other = tt

pub serves_none : (s : KeeperState) → is_at_serve s s.step ≡ false → serving_of s ≡ serve.AtRest
serves_none s other = by_step s.step other
  where
    by_part : (step : Maintaining) → is_last_part step ≡ false → maintain_serving s.maintain step ≡ serve.AtRest
    by_part Serves e = cc
    by_part step e = refl

    by_step : (step : Keeping) → is_at_serve s step ≡ false → keeper_serving s step ≡ serve.AtRest
    by_step Maintains e = by_part s.maintain.step e
    by_step step e = refl

-- as a turn begins, whether or not it serves alone
parts_idle : (rests : Bool) (m : MaintainState) → PartIsIdle (parts_begun rests m)
parts_idle true m = tt
parts_idle false m = tt

-- outside of a turn's last part: at most it comes to the first mailbox
keeper_idle : (shape : Shape) (p : Places) (s : KeeperState) (event : KeeperEvent) → is_at_serve s s.step ≡ false → IsIdle (serving_of (keeper_happens shape p s event))
keeper_idle shape p s event other =
    let a : KeeperState = keeper_happens shape p s event in
    turn_idle a a.step (happens_with PartIsIdle shape p s event (not_serving s s.step other) (parts_idle (serves_alone s) s.maintain)
    (λ at next. part_idle shape p s.maintain next (subst (λ (x : Keeping). is_at_serve s x ≡ false) at other)))

no_run : (shape : Shape) (p : Places) (s : KeeperState) → keeper_run shape p s [] ≡ s
unfolding keeper_run
no_run shape p s = refl

-- A keeper that is at the last part, so far.
abbrev pub at_serve : KeeperState → Serving → KeeperState
at_serve s step = record s { maintain = record s.maintain { serving = step; step = Serves }; step = Maintains }

pub is_at : (s : KeeperState) → is_at_serve s s.step ≡ true → s ≡ at_serve s (serving_of s)
is_at s e = by_step s.step refl e
  where
    by_part : (part : Maintaining) → s.maintain.step ≡ part → is_last_part part ≡ true → s.step ≡ Maintains → s ≡ at_serve s (maintain_serving s.maintain part)
    by_part Serves at last in_turn =
        ap (λ (x : Keeping). record s { step = x }) in_turn ∙ ap (λ (x : Maintaining). record s { maintain = record s.maintain { step = x }; step = Maintains }) at
    by_part part at last in_turn = cc

    by_step : (step : Keeping) → s.step ≡ step → is_at_serve s step ≡ true → s ≡ at_serve s (keeper_serving s step)
    by_step Maintains at last = by_part s.maintain.step refl last at
    by_step step at last = cc

-- where the machine leads, the turn goes on with it, or with the phase behind its end
abbrev goes_on : Shape → Places → KeeperState → Serving → KeeperState
goes_on shape p s step =
    maintain_ledto (record s { maintain = serve_ledto (record s.maintain { serving = step; step = Serves }) (serve_ask step); step = Maintains })
    (maintain_ask shape p (serve_ledto (record s.maintain { serving = step; step = Serves }) (serve_ask step)))

went_on : (shape : Shape) (p : Places) (s : KeeperState) (step : Serving) → serving_of (goes_on shape p s step) ≡ step
unfolding maintain_ledto serve_ledto serve_ask maintaining_ask device_asked passed
went_on shape p s serve.AtRest = refl
went_on shape p s (serve.LoadsState session) = refl
went_on shape p s (serve.LoadsAddress session) = refl
went_on shape p s (serve.Reads session addr) = refl
went_on shape p s (serve.StoresHeader session mail) = refl
went_on shape p s (serve.StoresKey session mail) = refl
went_on shape p s (serve.StoresValue session mail) = refl
went_on shape p s (serve.StoresReady session) = refl

-- behind which no slot is asked for
no_slot : (shape : Shape) (p : Places) (s : KeeperState) (step : Serving) (actions : List (Option Action)) (granted : Bool) → keeper_slots actions granted (keeper_ask shape p (goes_on shape p s step)) ≡ []
unfolding maintain_ledto serve_ledto serve_ask maintaining_ask device_asked passed device_passed keeping_ask keeper_slots
no_slot shape p s serve.AtRest actions granted = refl
no_slot shape p s (serve.LoadsState session) actions granted = refl
no_slot shape p s (serve.LoadsAddress session) actions granted = refl
no_slot shape p s (serve.Reads session addr) actions granted = refl
no_slot shape p s (serve.StoresHeader session mail) actions granted = refl
no_slot shape p s (serve.StoresKey session mail) actions granted = refl
no_slot shape p s (serve.StoresValue session mail) actions granted = refl
no_slot shape p s (serve.StoresReady session) actions granted = refl

next_goes : (shape : Shape) (p : Places) (s : KeeperState) (step : Serving) (reply : ℕ) (granted : Bool) → keeper_next shape p (at_serve s step) reply granted ≡ goes_on shape p s (serve_next shape.sessions (begin_of s) step reply)
unfolding keeping_next maintaining_next
next_goes shape p s step reply granted = refl

called_goes : (shape : Shape) (p : Places) (s : KeeperState) (step : Serving) (bytes : List ℕ) → keeper_called shape p (at_serve s step) true bytes ≡ goes_on shape p s (serve_read step bytes)
unfolding keeping_called maintaining_called
called_goes shape p s step bytes = refl

fails : (shape : Shape) (p : Places) (s : KeeperState) (step : Serving) (bytes : List ℕ) → (keeper_called shape p (at_serve s step) false bytes).is_broken ≡ true
unfolding keeping_called maintaining_called maintaining_ask maintain_ledto
fails shape p s step bytes = refl

-- how far it is then, in a log with this begin
abbrev pub serve_after : ℕ → ℕ → List ℕ → List ℕ → Serving → Serving
serve_after sessions begin words read (serve.Reads session addr) = serve_read (serve.Reads session addr) read
serve_after sessions begin words read step = serve_next sessions begin step (reply_to words (serve_ask step))

-- what the keeper's own step is there
abbrev pub steps_of : Shape → Places → Bool → Bool → List ℕ → Near KeeperState → List KeeperEvent
steps_of shape p granted done read n = keeper_steps shape p granted done read n (keeper_ask shape p n.machine)

abbrev pub beside : KeeperState → List ℕ → List (Option Action) → Near KeeperState
beside s words actions = record { machine = s; words = words; actions = actions }

-- a word of a mailbox is asked for
abbrev AsksWord : Serving → Type 0
AsksWord serve.AtRest = ⊥
AsksWord (serve.Reads session addr) = ⊥
AsksWord step = ⊤

word_steps : (shape : Shape) (p : Places) (s : KeeperState) (words : List ℕ) (actions : List (Option Action)) (granted done : Bool) (read : List ℕ) (step : Serving) → AsksWord step
    → steps_of shape p granted done read (beside (at_serve s step) words actions)
    ≡ keeper_slots actions granted (keeper_ask shape p (keeper_next shape p (at_serve s step) (reply_to words (serve_ask step)) granted)) ++ Replies (reply_to words (serve_ask step)) granted ∷ []
unfolding keeper_steps keeping_ask maintaining_ask device_asked passed device_passed serve_ask
word_steps shape p s words actions granted done read serve.AtRest asks = absurd asks
word_steps shape p s words actions granted done read (serve.Reads session addr) asks = absurd asks
word_steps shape p s words actions granted done read (serve.LoadsState session) asks = refl
word_steps shape p s words actions granted done read (serve.LoadsAddress session) asks = refl
word_steps shape p s words actions granted done read (serve.StoresHeader session mail) asks = refl
word_steps shape p s words actions granted done read (serve.StoresKey session mail) asks = refl
word_steps shape p s words actions granted done read (serve.StoresValue session mail) asks = refl
word_steps shape p s words actions granted done read (serve.StoresReady session) asks = refl

replied : (shape : Shape) (p : Places) (s : KeeperState) (words : List ℕ) (actions : List (Option Action)) (granted done : Bool) (read : List ℕ) (step : Serving) → AsksWord step
    → serving_of (keeper_run shape p (at_serve s step) (steps_of shape p granted done read (beside (at_serve s step) words actions))) ≡ serve_next shape.sessions (begin_of s) step (reply_to words (serve_ask step))
unfolding keeper_run keeper_happens
replied shape p s words actions granted done read step asks =
    let reply : ℕ = reply_to words (serve_ask step) in
    let next : Serving = serve_next shape.sessions (begin_of s) step reply in
    let steps : steps_of shape p granted done read (beside (at_serve s step) words actions) ≡ Replies reply granted ∷ [] =
    word_steps shape p s words actions granted done read step asks
    ∙ ap (λ (x : KeeperState). keeper_slots actions granted (keeper_ask shape p x) ++ Replies reply granted ∷ []) (next_goes shape p s step reply granted)
    ∙ ap (λ (x : List KeeperEvent). x ++ Replies reply granted ∷ []) (no_slot shape p s next actions granted) in
    ap (λ (x : List KeeperEvent). serving_of (keeper_run shape p (at_serve s step) x)) steps
    ∙ ap serving_of (next_goes shape p s step reply granted) ∙ went_on shape p s next

read_steps : (shape : Shape) (p : Places) (s : KeeperState) (words : List ℕ) (actions : List (Option Action)) (granted done : Bool) (read : List ℕ) (session addr : ℕ)
    → steps_of shape p granted done read (beside (at_serve s (serve.Reads session addr)) words actions) ≡ Calls done read ∷ []
unfolding keeper_steps keeping_ask maintaining_ask device_asked passed device_passed serve_ask
read_steps shape p s words actions granted done read session addr = refl

rest_steps : (shape : Shape) (p : Places) (s : KeeperState) (words : List ℕ) (actions : List (Option Action)) (granted done : Bool) (read : List ℕ)
    → steps_of shape p granted done read (beside (at_serve s serve.AtRest) words actions) ≡ []
unfolding keeper_steps keeping_ask maintaining_ask device_asked passed device_passed serve_ask
rest_steps shape p s words actions granted done read = refl

broken_never : {A : Type 0} (b : Bool) → b ≡ true → b ≡ false → A
broken_never b broken works = let clash : true ≡ false = sym broken ∙ works in cc

called : (shape : Shape) (p : Places) (s : KeeperState) (done : Bool) (read : List ℕ) (session addr : ℕ) → (keeper_called shape p (at_serve s (serve.Reads session addr)) done read).is_broken ≡ false
    → serving_of (keeper_called shape p (at_serve s (serve.Reads session addr)) done read) ≡ serve_read (serve.Reads session addr) read
called shape p s true read session addr works =
    ap serving_of (called_goes shape p s (serve.Reads session addr) read) ∙ went_on shape p s (serve_read (serve.Reads session addr) read)
called shape p s false read session addr works = broken_never _ (fails shape p s (serve.Reads session addr) read) works

rested : (shape : Shape) (p : Places) (s : KeeperState) (words : List ℕ) (actions : List (Option Action)) (granted done : Bool) (read : List ℕ)
    → serving_of (keeper_run shape p (at_serve s serve.AtRest) (steps_of shape p granted done read (beside (at_serve s serve.AtRest) words actions))) ≡ serve.AtRest
unfolding keeper_run
rested shape p s words actions granted done read = ap (λ (x : List KeeperEvent). serving_of (keeper_run shape p (at_serve s serve.AtRest) x)) (rest_steps shape p s words actions granted done read)

call_runs : (shape : Shape) (p : Places) (s : KeeperState) (words : List ℕ) (actions : List (Option Action)) (granted done : Bool) (read : List ℕ) (session addr : ℕ)
    → keeper_run shape p (at_serve s (serve.Reads session addr)) (steps_of shape p granted done read (beside (at_serve s (serve.Reads session addr)) words actions))
    ≡ keeper_called shape p (at_serve s (serve.Reads session addr)) done read
unfolding keeper_run keeper_happens
call_runs shape p s words actions granted done read session addr = ap (λ (x : List KeeperEvent). keeper_run shape p (at_serve s (serve.Reads session addr)) x) (read_steps shape p s words actions granted done read session addr)

-- The keeper's whole step at the last part: its machine is where it leads, unless the device has failed.
pub serves_on : (shape : Shape) (p : Places) (s : KeeperState) (words : List ℕ) (actions : List (Option Action)) (granted done : Bool) (read : List ℕ) (step : Serving)
    → (keeper_run shape p (at_serve s step) (steps_of shape p granted done read (beside (at_serve s step) words actions))).is_broken ≡ false
    → serving_of (keeper_run shape p (at_serve s step) (steps_of shape p granted done read (beside (at_serve s step) words actions))) ≡ serve_after shape.sessions (begin_of s) words read step
unfolding serve_next
serves_on shape p s words actions granted done read serve.AtRest works = rested shape p s words actions granted done read
serves_on shape p s words actions granted done read (serve.Reads session addr) works =
    let same = call_runs shape p s words actions granted done read session addr in
    ap serving_of same ∙ called shape p s done read session addr (ap (λ (x : KeeperState). x.is_broken) (sym same) ∙ works)
serves_on shape p s words actions granted done read (serve.LoadsState session) works = replied shape p s words actions granted done read (serve.LoadsState session) tt
serves_on shape p s words actions granted done read (serve.LoadsAddress session) works = replied shape p s words actions granted done read (serve.LoadsAddress session) tt
serves_on shape p s words actions granted done read (serve.StoresHeader session mail) works = replied shape p s words actions granted done read (serve.StoresHeader session mail) tt
serves_on shape p s words actions granted done read (serve.StoresKey session mail) works = replied shape p s words actions granted done read (serve.StoresKey session mail) tt
serves_on shape p s words actions granted done read (serve.StoresValue session mail) works = replied shape p s words actions granted done read (serve.StoresValue session mail) tt
serves_on shape p s words actions granted done read (serve.StoresReady session) works = replied shape p s words actions granted done read (serve.StoresReady session) tt

-- Outside of the last part the keeper's whole step comes to the first mailbox at most.
settled_idle : (shape : Shape) (p : Places) (s : KeeperState) (actions : List (Option Action)) (granted : Bool) (ask : Ask KeeperTold) → is_at_serve s s.step ≡ false → IsIdle (serving_of (keeper_run shape p s (keeper_slots actions granted ask)))
unfolding keeper_run keeper_slots
settled_idle shape p s actions granted (Put slot action) other = keeper_idle shape p s (Replies 0 granted) other
settled_idle shape p s actions granted (Take slot) other = by_action (action_at actions slot)
  where
    by_action : (found : Option Action) → IsIdle (serving_of (keeper_run shape p s (keeper_got found)))
    by_action None = subst IsIdle (sym (serves_none s other)) tt
    by_action (Some action) = keeper_idle shape p s (Gets action) other
settled_idle shape p s actions granted (Load place) other = subst IsIdle (sym (serves_none s other)) tt
settled_idle shape p s actions granted (Store place word) other = subst IsIdle (sym (serves_none s other)) tt
settled_idle shape p s actions granted (Swap place word) other = subst IsIdle (sym (serves_none s other)) tt
settled_idle shape p s actions granted (Cas place old new) other = subst IsIdle (sym (serves_none s other)) tt
settled_idle shape p s actions granted (Add place k) other = subst IsIdle (sym (serves_none s other)) tt
settled_idle shape p s actions granted (Max place k) other = subst IsIdle (sym (serves_none s other)) tt
settled_idle shape p s actions granted (Done its) other = subst IsIdle (sym (serves_none s other)) tt

-- a keeper at the last part asks for no slot
plain_ask : (shape : Shape) (p : Places) (s : KeeperState) (step : Serving) (actions : List (Option Action)) (granted : Bool) → keeper_slots actions granted (keeper_ask shape p (at_serve s step)) ≡ []
unfolding serve_ask maintaining_ask device_asked passed device_passed keeping_ask keeper_slots
plain_ask shape p s serve.AtRest actions granted = refl
plain_ask shape p s (serve.LoadsState session) actions granted = refl
plain_ask shape p s (serve.LoadsAddress session) actions granted = refl
plain_ask shape p s (serve.Reads session addr) actions granted = refl
plain_ask shape p s (serve.StoresHeader session mail) actions granted = refl
plain_ask shape p s (serve.StoresKey session mail) actions granted = refl
plain_ask shape p s (serve.StoresValue session mail) actions granted = refl
plain_ask shape p s (serve.StoresReady session) actions granted = refl

behind_idle : (shape : Shape) (p : Places) (s : KeeperState) (actions : List (Option Action)) (granted : Bool) → IsIdle (serving_of s) → IsIdle (serving_of (keeper_run shape p s (keeper_slots actions granted (keeper_ask shape p s))))
behind_idle shape p s actions granted idle = by_part (is_at_serve s s.step) refl
  where
    by_part : (c : Bool) → is_at_serve s s.step ≡ c → IsIdle (serving_of (keeper_run shape p s (keeper_slots actions granted (keeper_ask shape p s))))
    by_part false e = settled_idle shape p s actions granted (keeper_ask shape p s) e
    by_part true e =
        let none : keeper_slots actions granted (keeper_ask shape p s) ≡ [] =
        ap (λ (x : KeeperState). keeper_slots actions granted (keeper_ask shape p x)) (is_at s e) ∙ plain_ask shape p s (serving_of s) actions granted in
        subst (λ (x : List KeeperEvent). IsIdle (serving_of (keeper_run shape p s x))) (sym none) (subst (λ (x : KeeperState). IsIdle (serving_of x)) (sym (no_run shape p s)) idle)

replied_idle : (shape : Shape) (p : Places) (s : KeeperState) (actions : List (Option Action)) (granted : Bool) (reply : ℕ) → is_at_serve s s.step ≡ false
    → IsIdle (serving_of (keeper_run shape p s (keeper_slots actions granted (keeper_ask shape p (keeper_next shape p s reply granted)) ++ Replies reply granted ∷ [])))
unfolding keeper_run keeper_happens
replied_idle shape p s actions granted reply other =
    let next : KeeperState = keeper_next shape p s reply granted in
    subst (λ (x : KeeperState). IsIdle (serving_of x)) (sym (keeper_runs_on shape p s (keeper_slots actions granted (keeper_ask shape p next)) (Replies reply granted ∷ [])))
    (behind_idle shape p next actions granted (keeper_idle shape p s (Replies reply granted) other))

pub idles_on : (shape : Shape) (p : Places) (s : KeeperState) (words : List ℕ) (actions : List (Option Action)) (granted done : Bool) (read : List ℕ) (ask : Ask KeeperTold) → is_at_serve s s.step ≡ false
    → IsIdle (serving_of (keeper_run shape p s (keeper_steps shape p granted done read (beside s words actions) ask)))
unfolding keeper_run keeper_steps keeper_slots
idles_on shape p s words actions granted done read (Done Device) other = keeper_idle shape p s (Calls done read) other
idles_on shape p s words actions granted done read (Done its) other = subst IsIdle (sym (serves_none s other)) tt
idles_on shape p s words actions granted done read (Put slot action) other = settled_idle shape p s actions granted (Put slot action) other
idles_on shape p s words actions granted done read (Take slot) other = settled_idle shape p s actions granted (Take slot) other
idles_on shape p s words actions granted done read (Load place) other = replied_idle shape p s actions granted (reply_to {A = KeeperTold} words (Load place)) other
idles_on shape p s words actions granted done read (Store place word) other = replied_idle shape p s actions granted (reply_to {A = KeeperTold} words (Store place word)) other
idles_on shape p s words actions granted done read (Swap place word) other = replied_idle shape p s actions granted (reply_to {A = KeeperTold} words (Swap place word)) other
idles_on shape p s words actions granted done read (Cas place old new) other = replied_idle shape p s actions granted (reply_to {A = KeeperTold} words (Cas place old new)) other
idles_on shape p s words actions granted done read (Add place k) other = replied_idle shape p s actions granted (reply_to {A = KeeperTold} words (Add place k)) other
idles_on shape p s words actions granted done read (Max place k) other = replied_idle shape p s actions granted (reply_to {A = KeeperTold} words (Max place k)) other

-- what it asks for is what its machine asks for
pub serve_words : (shape : Shape) (p : Places) (s : KeeperState) (words : List ℕ) (step : Serving) → words_after words (keeper_ask shape p (at_serve s step)) ≡ words_after words (serve_ask step)
unfolding keeping_ask maintaining_ask device_asked passed device_passed serve_ask
serve_words shape p s words serve.AtRest = refl
serve_words shape p s words (serve.LoadsState session) = refl
serve_words shape p s words (serve.LoadsAddress session) = refl
serve_words shape p s words (serve.Reads session addr) = refl
serve_words shape p s words (serve.StoresHeader session mail) = refl
serve_words shape p s words (serve.StoresKey session mail) = refl
serve_words shape p s words (serve.StoresValue session mail) = refl
serve_words shape p s words (serve.StoresReady session) = refl

-- a read that has failed leaves a device that has
pub read_given : (shape : Shape) (p : Places) (s : KeeperState) (words : List ℕ) (actions : List (Option Action)) (granted done : Bool) (read : List ℕ) (session addr : ℕ)
    → (keeper_run shape p (at_serve s (serve.Reads session addr)) (steps_of shape p granted done read (beside (at_serve s (serve.Reads session addr)) words actions))).is_broken ≡ false → done ≡ true
read_given shape p s words actions granted true read session addr works = refl
read_given shape p s words actions granted false read session addr works =
    broken_never _ (ap (λ (x : KeeperState). x.is_broken) (call_runs shape p s words actions granted false read session addr) ∙ fails shape p s (serve.Reads session addr) read) works

-- a keeper with no call in hand asks for nothing
ended_told : (told before : KeeperTold) (shape : Shape) (p : Places) (granted done : Bool) (read : List ℕ) (n : Near KeeperState) → (before ≡ Device → ⊥) → keeper_steps shape p granted done read n (Done (end_told told before)) ≡ []
unfolding keeper_steps
ended_told Device Device shape p granted done read n other = absurd (other refl)
ended_told Device before shape p granted done read n other = refl
ended_told told before shape p granted done read n other = refl

ended_steps : (shape : Shape) (p : Places) (s : KeeperState) (words : List ℕ) (actions : List (Option Action)) (granted done : Bool) (read : List ℕ) (step : Keeping) → s.step ≡ step → is_in_hand step ≡ false
    → steps_of shape p granted done read (beside s words actions) ≡ []
unfolding keeping_ask
ended_steps shape p s words actions granted done read (Ended its) at rests =
    ap (λ (x : Keeping). keeper_steps shape p granted done read (beside s words actions) (keeping_ask shape p s x)) at ∙ ended_told its (turn_over s) shape p granted done read (beside s words actions) (λ e. cc)
ended_steps shape p s words actions granted done read step at rests = cc

pub ended_stays : (shape : Shape) (p : Places) (s : KeeperState) (words : List ℕ) (actions : List (Option Action)) (granted done : Bool) (read : List ℕ) → is_in_hand s.step ≡ false
    → keeper_run shape p s (steps_of shape p granted done read (beside s words actions)) ≡ s
ended_stays shape p s words actions granted done read rests =
    ap (λ (x : List KeeperEvent). keeper_run shape p s x) (ended_steps shape p s words actions granted done read s.step refl rests) ∙ no_run shape p s

pub serve_in_hand : (s : KeeperState) → is_at_serve s s.step ≡ true → is_in_hand s.step ≡ true
serve_in_hand s e = by_step s.step e
  where
    by_step : (step : Keeping) → is_at_serve s step ≡ true → is_in_hand step ≡ true
    by_step (Ended its) at = cc
    by_step step at = refl
