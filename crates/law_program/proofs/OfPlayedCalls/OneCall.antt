-- A group of one call is that call, played alone.
use Rattle.std.proofs.Common.{◌≡◌, ◌≢◌, ◌∙◌, ◌⊎◌, ◌<◌, ℕ, suc, List, [], ◌∷◌, ◌++◌, Bool, true, false, ap, arith, inl, inr, refl, replicate, sym, subst}
use Rattle.std.specs.Prelude.{Option, Some, None, filter, nat_lt, slice_get, slice_set}
use Rattle.std.proofs.lemmas.Bool.Decides.{nat_tests}
use Rattle.fkv_base.specs.declared.faults.Fault.TheVariants.{NoSession}
use Rattle.law_order.specs.Below.fkv_core.Worlds.{WorldModel}
use Rattle.law_order.specs.Below.fkv_core.Event as events
use Rattle.law_order.specs.Below.fkv_core.TheTold as tells
use Rattle.fkv_epoch.proofs.Shown.{item_spared, item_written, none_some, same_or, some_same}
use Rattle.fkv_runs.specs.Below.fkv_playing.Beats.{IsBeat, asked_of, seats_behind}
use Rattle.fkv_runs.specs.Below.fkv_playing.Groups.{GroupState, IsBeatOf, IsPick, is_struck_by, missing_session}
use Rattle.fkv_runs.specs.Below.fkv_playing.InTurn.{InTurn}
use Rattle.fkv_runs.specs.Below.fkv_playing.Players.{PlayerState, is_struck}
use Rattle.fkv_runs.specs.Below.fkv_playing.Queues.{AreQueuesOf, NobodyHasSteps, QueueState, given_up, held, held_by, is_of, next_step, queue_behind, rank_of, step_of}
use Rattle.fkv_runs.specs.Below.fkv_playing.Seats.{SeatState}
use Rattle.fkv_runs.specs.Below.fkv_playing.Texts.{text_heard}
use Rattle.fkv_runs.specs.Below.fkv_playing.ActorCall.{ActorCall}
use Rattle.fkv_runs.specs.Below.fkv_playing.Outcome.{Outcome}
use Rattle.fkv_runs.specs.Below.fkv_playing.Outcome.TheVariants.{Answered, Closed, GoesOn, Struck}
use Rattle.fkv_runs.specs.Below.fkv_playing.Stage.{Stage}
use Rattle.fkv_runs.specs.Below.fkv_playing.Stage.TheVariants as stage
use Rattle.fkv_runs.specs.Below.fkv_playing.Telling.TheVariants.{Whole}
use Rattle.fkv_texts.specs.Refusals.{session_refusal}
use Rattle.law_program.proofs.OfPlayedCalls.Beats.{HasEnded, unheard, unheard_then}

-- ---- the queues of one call
-- it is to be begun, or in hand, and nothing else is left
abbrev pub StandsAt : Stage → ActorCall → QueueState → Type 0
StandsAt stage.Begins call queue = (queue.hand ≡ None) × (queue.left ≡ call ∷ [])
StandsAt stage.Moves call queue = (queue.hand ≡ Some call) × (queue.left ≡ [])

-- it is in hand
abbrev pub taken : QueueState → ActorCall → QueueState
taken queue call = record { rank = queue.rank; hand = Some call; left = [] }

its_step : (at : Stage) (call : ActorCall) (queue : QueueState) → StandsAt at call queue → next_step queue ≡ Some (call, at)
its_step stage.Begins call queue stands = ap (λ (x : Option ActorCall). step_of x queue.left) stands.0 ∙ ap (step_of None) stands.1
its_step stage.Moves call queue stands = ap (λ (x : Option ActorCall). step_of x queue.left) stands.0

its_held : (at : Stage) (call : ActorCall) (queue : QueueState) → StandsAt at call queue → held queue ≡ taken queue call
its_held stage.Begins call queue stands = ap (λ (x : Option ActorCall). held_by queue.rank x queue.left) stands.0 ∙ ap (held_by queue.rank None) stands.1
its_held stage.Moves call queue stands = ap (λ (x : Option ActorCall). held_by queue.rank x queue.left) stands.0 ∙ ap (held_by queue.rank (Some call)) stands.1

-- Its queue stands at this place, and no other has a step.
pub record HasOneCall (at : Stage) (call : ActorCall) (place : ℕ) (queues : List QueueState) : Type 0 where
  pub queue : QueueState
  pub found : slice_get queues place ≡ Some queue
  pub stands : StandsAt at call queue
  pub others : (other : ℕ) (its : QueueState) → other ≢ place → slice_get queues other ≡ Some its → next_step its ≡ None

-- it is in hand now
goes_on_so : (at : Stage) (call : ActorCall) (place : ℕ) (queues after : List QueueState) → (its : HasOneCall at call place queues) → after ≡ slice_set queues place (taken its.queue call) → HasOneCall stage.Moves call place after
goes_on_so at call place queues after its so =
    subst (HasOneCall stage.Moves call place) (sym so)
    (record {
      queue = taken its.queue call;
      found = item_written queues place its.queue (taken its.queue call) its.found;
      stands = (refl, refl);
      others = λ other one apart there. its.others other one apart (sym (item_spared queues place other (taken its.queue call) apart) ∙ there);
    })

-- it is over
over_so : (at : Stage) (call : ActorCall) (place : ℕ) (queues after : List QueueState) → (its : HasOneCall at call place queues) → after ≡ slice_set queues place (given_up (taken its.queue call)) → NobodyHasSteps after
over_so at call place queues after its so = subst NobodyHasSteps (sym so) (λ other one there. by_place other one there (same_or other place))
  where
    by_place : (other : ℕ) (one : QueueState) → slice_get (slice_set queues place (given_up (taken its.queue call))) other ≡ Some one → (other ≡ place) ⊎ (other ≢ place) → next_step one ≡ None
    by_place other one there (inl same) =
        let here : given_up (taken its.queue call) ≡ one
        = some_same _ _ (sym (item_written queues place its.queue (given_up (taken its.queue call)) its.found) ∙ (ap (slice_get (slice_set queues place (given_up (taken its.queue call)))) (sym same) ∙ there)) in
        ap next_step (sym here)
    by_place other one there (inr apart) = its.others other one apart (sym (item_spared queues place other (given_up (taken its.queue call)) apart) ∙ there)

-- ---- no pick
module _ {D : Type 0} (engine : events.Event → WorldModel D → WorldModel D → Option tells.Told → Bool → Type 0) where
  -- where nobody has a step nobody is picked
  none_picked : (picked : ℕ) (before after : GroupState D) (struck : Bool) (text : List ℕ) → NobodyHasSteps before.queues → IsPick engine picked before after struck text → ⊥
  none_picked picked before after struck text nobody pick = none_some _ (sym (nobody picked pick.queue pick.stands) ∙ pick.has_step)

  -- so the group ends there
  pub none_played : (picks : List ℕ) (before after : GroupState D) (text : List ℕ) → NobodyHasSteps before.queues → InTurn (IsPick engine) false picks before after false text → (after ≡ before) × (text ≡ [])
  none_played [] before after text nobody played = (played.0, played.2)
  none_played (picked ∷ []) before after text nobody played = absurd (none_picked picked before after false text nobody played)
  none_played (picked ∷ next ∷ later) before after text nobody played = absurd (none_picked picked before played.0 false played.1 nobody played.3)

  none_more : (picked : ℕ) (later : List ℕ) (before after : GroupState D) (text : List ℕ) → NobodyHasSteps before.queues → InTurn (IsPick engine) false (picked ∷ later) before after false text → ⊥
  none_more picked [] before after text nobody played = none_picked picked before after false text nobody played
  none_more picked (next ∷ later) before after text nobody played = none_picked picked before played.0 false played.1 nobody played.3

-- ---- one pick
module _ {D : Type 0} (engine : events.Event → WorldModel D → WorldModel D → Option tells.Told → Bool → Type 0) (call : ActorCall) where
  -- whose queue is picked has the one step
  record IsItsPick (at : Stage) (place : ℕ) (before after : GroupState D) (queue : QueueState) (struck : Bool) (text : List ℕ) : Type 0 where
    outcome : Outcome
    beat : IsBeatOf engine call at before.player after.player outcome text (missing_session before.player.seats call)
    ends : struck ≡ is_struck_by outcome
    queues : after.queues ≡ slice_set before.queues place (queue_behind outcome (taken queue call))

  its_place : (at : Stage) (place picked : ℕ) (before after : GroupState D) (struck : Bool) (text : List ℕ) → HasOneCall at call place before.queues → IsPick engine picked before after struck text → picked ≡ place
  its_place at place picked before after struck text its pick = by_place (same_or picked place)
    where
      by_place : (picked ≡ place) ⊎ (picked ≢ place) → picked ≡ place
      by_place (inl same) = same
      by_place (inr apart) = none_some _ (sym (its.others picked pick.queue apart pick.stands) ∙ pick.has_step)

  its_pick : (at : Stage) (place picked : ℕ) (before after : GroupState D) (struck : Bool) (text : List ℕ) → (its : HasOneCall at call place before.queues) → IsPick engine picked before after struck text
      → IsItsPick at place before after its.queue struck text
  its_pick at place picked before after struck text its pick =
      let same : picked ≡ place = its_place at place picked before after struck text its pick in
      let here : pick.queue ≡ its.queue = some_same _ _ (sym pick.stands ∙ (ap (slice_get before.queues) same ∙ its.found)) in
      let step : ◌≡◌ {A = ActorCall × Stage} (pick.call, pick.stage) (call, at) = some_same _ _ (sym pick.has_step ∙ (ap next_step here ∙ its_step at call its.queue its.stands)) in
      record {
        outcome = pick.outcome;
        beat = subst (λ (x : ActorCall × Stage). IsBeatOf engine x.0 x.1 before.player after.player pick.outcome text (missing_session before.player.seats x.0)) step pick.beat;
        ends = pick.ends;
        queues = pick.queues ∙ (ap (λ (x : ℕ). slice_set before.queues x (queue_behind pick.outcome (held pick.queue))) same
            ∙ ap (λ (x : QueueState). slice_set before.queues place (queue_behind pick.outcome x)) (ap held here ∙ its_held at call its.queue its.stands));
      }

  -- ---- a whole group
  -- its steps are those of the call that is played alone
  pub record IsPlayedOut (at : Stage) (before after : PlayerState D) (text : List ℕ) : Type 0 where
    pub moves : ℕ
    pub outcome : Outcome
    pub ended : HasEnded outcome
    pub beats : InTurn (IsBeat engine Whole call) GoesOn (at ∷ replicate moves stage.Moves) before after outcome text

  here_beat : (at : Stage) (before after : PlayerState D) (outcome : Outcome) (text : List ℕ) → missing_session before.seats call ≡ None
      → IsBeatOf engine call at before after outcome text (missing_session before.seats call) → IsBeat engine Whole call at before after outcome text
  here_beat at before after outcome text there beat = subst (λ (x : Option ℕ). IsBeatOf engine call at before after outcome text x) there beat

  -- such a beat behind which the call goes on leaves the seats as they are
  same_seats : (at : Stage) (before after : PlayerState D) (text : List ℕ) → IsBeat engine Whole call at before after GoesOn text → after.seats ≡ before.seats
  same_seats at before after text beat = beat.seats ∙ ap (seats_behind (asked_of call) before.seats) (unheard (is_struck before.waits beat.broken) beat.its beat.ends)

  -- its one step is left
  has_one : (at : Stage) (place : ℕ) (queues : List QueueState) → HasOneCall at call place queues → NobodyHasSteps queues → ⊥
  has_one at place queues its nobody = none_some _ (sym (nobody place its.queue its.found) ∙ its_step at call its.queue its.stands)

  -- the last pick
  last_pick : (at : Stage) (place picked : ℕ) (before after : GroupState D) (text : List ℕ) → HasOneCall at call place before.queues → missing_session before.player.seats call ≡ None → NobodyHasSteps after.queues
      → IsPick engine picked before after false text → IsPlayedOut at before.player after.player text
  last_pick at place picked before after text its there nobody pick = by_outcome one.outcome refl
    where
      one : IsItsPick at place before after its.queue false text
      one = its_pick at place picked before after false text its pick

      beat : IsBeat engine Whole call at before.player after.player one.outcome text
      beat = here_beat at before.player after.player one.outcome text there one.beat

      by_outcome : (outcome : Outcome) → one.outcome ≡ outcome → IsPlayedOut at before.player after.player text
      by_outcome GoesOn e =
          absurd (has_one stage.Moves place after.queues
          (goes_on_so at call place before.queues after.queues its (one.queues ∙ ap (λ (x : Outcome). slice_set before.queues place (queue_behind x (taken its.queue call))) e)) nobody)
      by_outcome Answered e = record { moves = 0; outcome = one.outcome; ended = ((λ goes. cc), sym one.ends); beats = beat }
      by_outcome Closed e = record { moves = 0; outcome = one.outcome; ended = ((λ goes. cc), sym one.ends); beats = beat }
      by_outcome Struck e = let never : false ≡ true = one.ends ∙ ap is_struck_by e in cc

  -- a pick before others
  pick_before : (at : Stage) (place picked next : ℕ) (later : List ℕ) (before between after : GroupState D) (first rest text : List ℕ) → HasOneCall at call place before.queues → missing_session before.player.seats call ≡ None
      → IsPick engine picked before between false first → InTurn (IsPick engine) false (next ∷ later) between after false rest → text ≡ first ++ rest
      → (HasOneCall stage.Moves call place between.queues → missing_session between.player.seats call ≡ None → IsPlayedOut stage.Moves between.player after.player rest)
      → IsPlayedOut at before.player after.player text
  pick_before at place picked next later before between after first rest text its there pick played says goes_on = by_outcome one.outcome refl
    where
      one : IsItsPick at place before between its.queue false first
      one = its_pick at place picked before between false first its pick

      beat : IsBeat engine Whole call at before.player between.player one.outcome first
      beat = here_beat at before.player between.player one.outcome first there one.beat

      queues_so : (outcome : Outcome) → one.outcome ≡ outcome → between.queues ≡ slice_set before.queues place (queue_behind outcome (taken its.queue call))
      queues_so outcome e = one.queues ∙ ap (λ (x : Outcome). slice_set before.queues place (queue_behind x (taken its.queue call))) e

      by_outcome : (outcome : Outcome) → one.outcome ≡ outcome → IsPlayedOut at before.player after.player text
      by_outcome GoesOn e =
          let on : IsBeat engine Whole call at before.player between.player GoesOn first = subst (λ (x : Outcome). IsBeat engine Whole call at before.player between.player x first) e beat in
          let stays : missing_session between.player.seats call ≡ None = ap (λ (x : List SeatState). missing_session x call) (same_seats at before.player between.player first on) ∙ there in
          let behind = goes_on (goes_on_so at call place before.queues between.queues its (queues_so GoesOn e)) stays in
          record {
            moves = suc behind.moves;
            outcome = behind.outcome;
            ended = behind.ended;
            beats = (between.player, first, rest, on, behind.beats, says);
          }
      by_outcome Answered e = absurd (none_more engine next later between after rest (over_so at call place before.queues between.queues its (queues_so Answered e)) played)
      by_outcome Closed e = absurd (none_more engine next later between after rest (over_so at call place before.queues between.queues its (queues_so Closed e)) played)
      by_outcome Struck e = let never : false ≡ true = one.ends ∙ ap is_struck_by e in cc

  pub played_out : (picks : List ℕ) (at : Stage) (place : ℕ) (before after : GroupState D) (text : List ℕ) → HasOneCall at call place before.queues → missing_session before.player.seats call ≡ None
      → NobodyHasSteps after.queues → InTurn (IsPick engine) false picks before after false text → IsPlayedOut at before.player after.player text
  played_out [] at place before after text its there nobody played =
      absurd (has_one at place before.queues its (subst (λ (x : GroupState D). NobodyHasSteps x.queues) played.0 nobody))
  played_out (picked ∷ []) at place before after text its there nobody played = last_pick at place picked before after text its there nobody played
  played_out (picked ∷ next ∷ later) at place before after text its there nobody played =
      pick_before at place picked next later before played.0 after played.1 played.2 text its there played.3 played.4 played.5
      (λ one stays. played_out (next ∷ later) stage.Moves place played.0 after played.2 one stays nobody played.4)

  -- a call that is refused is over at once
  pub refused_out : (picks : List ℕ) (place number : ℕ) (before after : GroupState D) (text : List ℕ) → HasOneCall stage.Begins call place before.queues → missing_session before.player.seats call ≡ Some number
      → NobodyHasSteps after.queues → InTurn (IsPick engine) false picks before after false text → (after.player ≡ before.player) × (text ≡ session_refusal number NoSession)
  refused_out [] place number before after text its missing nobody played =
      absurd (has_one stage.Begins place before.queues its (subst (λ (x : GroupState D). NobodyHasSteps x.queues) played.0 nobody))
  refused_out (picked ∷ []) place number before after text its missing nobody played =
      let one = its_pick stage.Begins place picked before after false text its played in
      let beat = subst (λ (x : Option ℕ). IsBeatOf engine call stage.Begins before.player after.player one.outcome text x) missing one.beat in
      (beat.0, beat.2)
  refused_out (picked ∷ next ∷ later) place number before after text its missing nobody played =
      let one = its_pick stage.Begins place picked before played.0 false played.1 its played.3 in
      let beat = subst (λ (x : Option ℕ). IsBeatOf engine call stage.Begins before.player played.0.player one.outcome played.1 x) missing one.beat in
      let over = over_so stage.Begins call place before.queues played.0.queues its (one.queues ∙ ap (λ (x : Outcome). slice_set before.queues place (queue_behind x (taken its.queue call))) beat.1) in
      absurd (none_more engine next later played.0 after played.2 over played.4)

  -- ---- a call in which a crash strikes
  -- no step is left, struck or not
  none_then : (picked : ℕ) (later : List ℕ) (before after : GroupState D) (struck : Bool) (text : List ℕ) → NobodyHasSteps before.queues → InTurn (IsPick engine) false (picked ∷ later) before after struck text → ⊥
  none_then picked [] before after struck text nobody played = none_picked engine picked before after struck text nobody played
  none_then picked (next ∷ later) before after struck text nobody played = none_picked engine picked before played.0 false played.1 nobody played.3

  -- in the beat in which it strikes nobody hears what was told
  struck_beat : (at : Stage) (before after : PlayerState D) (outcome : Outcome) (text : List ℕ) (missing : Option ℕ) → true ≡ is_struck_by outcome → IsBeatOf engine call at before after outcome text missing → text ≡ []
  struck_beat at before after outcome text None struck beat =
      beat.says ∙ unheard_then Whole (asked_of call) before.seats after.world.now (is_struck before.waits beat.broken) beat.its (struck ∙ ap is_struck_by beat.ends)
  struck_beat at before after outcome text (Some number) struck beat = let never : true ≡ false = struck ∙ ap is_struck_by beat.1 in cc

  -- before it the call has printed nothing
  silent_before : (at : Stage) (before after : PlayerState D) (outcome : Outcome) (text : List ℕ) (missing : Option ℕ) → outcome ≡ GoesOn → IsBeatOf engine call at before after outcome text missing → text ≡ []
  silent_before at before after outcome text None goes beat =
      beat.says ∙ ap (text_heard Whole (asked_of call) before.seats after.world.now) (unheard (is_struck before.waits beat.broken) beat.its (sym goes ∙ beat.ends))
  silent_before at before after outcome text (Some number) goes beat = let never : GoesOn ≡ Answered = sym goes ∙ beat.1 in cc

  struck_outcome : (outcome : Outcome) → true ≡ is_struck_by outcome → outcome ≡ Struck
  struck_outcome Struck struck = refl
  struck_outcome GoesOn struck = cc
  struck_outcome Answered struck = cc
  struck_outcome Closed struck = cc

  -- so the group prints nothing, and nobody has a step left
  pub record EndsSilently (after : GroupState D) (text : List ℕ) : Type 0 where
    pub silent : text ≡ []
    pub none_left : NobodyHasSteps after.queues

  pub struck_silent : (picks : List ℕ) (at : Stage) (place : ℕ) (before after : GroupState D) (text : List ℕ) → HasOneCall at call place before.queues → InTurn (IsPick engine) false picks before after true text → EndsSilently after text
  struck_silent [] at place before after text its played = let never : true ≡ false = played.1 in cc
  struck_silent (picked ∷ []) at place before after text its played =
      let one = its_pick at place picked before after true text its played in
      record {
        silent = struck_beat at before.player after.player one.outcome text (missing_session before.player.seats call) one.ends one.beat;
        none_left =
            over_so at call place before.queues after.queues its (one.queues ∙ ap (λ (x : Outcome). slice_set before.queues place (queue_behind x (taken its.queue call))) (struck_outcome one.outcome one.ends));
      }
  struck_silent (picked ∷ next ∷ later) at place before after text its played = by_outcome one.outcome refl (λ stands. struck_silent (next ∷ later) stage.Moves place played.0 after played.2 stands played.4)
    where
      one : IsItsPick at place before played.0 its.queue false played.1
      one = its_pick at place picked before played.0 false played.1 its played.3

      queues_so : (outcome : Outcome) → one.outcome ≡ outcome → played.0.queues ≡ slice_set before.queues place (queue_behind outcome (taken its.queue call))
      queues_so outcome e = one.queues ∙ ap (λ (x : Outcome). slice_set before.queues place (queue_behind x (taken its.queue call))) e

      by_outcome : (outcome : Outcome) → one.outcome ≡ outcome → (HasOneCall stage.Moves call place played.0.queues → EndsSilently after played.2) → EndsSilently after text
      by_outcome GoesOn e goes_on =
          let silent : played.1 ≡ [] = silent_before at before.player played.0.player one.outcome played.1 (missing_session before.player.seats call) e one.beat in
          let rest = goes_on (goes_on_so at call place before.queues played.0.queues its (queues_so GoesOn e)) in
          record { silent = played.5 ∙ (ap (λ (x : List ℕ). x ++ played.2) silent ∙ rest.silent); none_left = rest.none_left }
      by_outcome Answered e goes_on = absurd (none_then next later played.0 after true played.2 (over_so at call place before.queues played.0.queues its (queues_so Answered e)) played.4)
      by_outcome Closed e goes_on = absurd (none_then next later played.0 after true played.2 (over_so at call place before.queues played.0.queues its (queues_so Closed e)) played.4)
      by_outcome Struck e goes_on = let never : false ≡ true = one.ends ∙ ap is_struck_by e in cc

-- ---- the queues of a group of one call
its_rank : (rank : ℕ) (call : ActorCall) → rank ≡ rank_of call → is_of rank call ≡ true
its_rank rank call same = grind (arith, nat_tests, same)

rank_its : (rank : ℕ) (call : ActorCall) → is_of rank call ≡ true → rank ≡ rank_of call
rank_its rank call is = grind (arith, nat_tests, is)

kept_one : (rank : ℕ) (call : ActorCall) → is_of rank call ≡ true → filter (is_of rank) (call ∷ []) ≡ call ∷ []
kept_one rank call is = rw is refl

kept_none : (rank : ℕ) (call : ActorCall) → is_of rank call ≡ false → filter (is_of rank) (call ∷ []) ≡ []
kept_none rank call is = rw is refl

two_ways : (i j : ℕ) → i ≢ j → (i < j) ⊎ (j < i)
two_ways i j apart = by_test (nat_lt i j) refl
  where
    by_test : (c : Bool) → nat_lt i j ≡ c → (i < j) ⊎ (j < i)
    by_test true e = inl (grind (arith, nat_tests, e))
    by_test false e = inr (grind (arith, nat_tests, e, apart))

pub first_call : (call : ActorCall) (queues : List QueueState) → AreQueuesOf (call ∷ []) queues → (place : ℕ) × HasOneCall stage.Begins call place queues
first_call call queues are = (place, record { queue = queue; found = found; stands = (are.idle place queue found, are.each place queue found ∙ kept_one queue.rank call (its_rank queue.rank call rank)); others = others })
  where
    place : ℕ
    place = (are.all 0 call refl).0

    queue : QueueState
    queue = (are.all 0 call refl).1

    found : slice_get queues place ≡ Some queue
    found = (are.all 0 call refl).2

    rank : queue.rank ≡ rank_of call
    rank = (are.all 0 call refl).3

    apart_ranks : (other : ℕ) (its : QueueState) → slice_get queues other ≡ Some its → (other < place) ⊎ (place < other) → its.rank ≢ queue.rank
    apart_ranks other its there (inl lower) = let less : its.rank < queue.rank = are.rising other place its queue lower there found in λ same. omega (arith, less, same)
    apart_ranks other its there (inr higher) = let less : queue.rank < its.rank = are.rising place other queue its higher found there in λ same. omega (arith, less, same)

    others : (other : ℕ) (its : QueueState) → other ≢ place → slice_get queues other ≡ Some its → next_step its ≡ None
    others other its apart there = by_rank (is_of its.rank call) refl
      where
        by_rank : (c : Bool) → is_of its.rank call ≡ c → next_step its ≡ None
        by_rank true e = absurd (apart_ranks other its there (two_ways other place apart) (rank_its its.rank call e ∙ sym rank))
        by_rank false e =
            let none_left : its.left ≡ [] = are.each other its there ∙ kept_none its.rank call e in
            ap (λ (x : Option ActorCall). step_of x its.left) (are.idle other its there) ∙ ap (step_of None) none_left
