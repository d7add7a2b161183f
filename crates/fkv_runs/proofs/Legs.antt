-- Legs of a run: what its parts write, and where they end it.
use Rattle.std.proofs.Common.{◌≡◌, ℕ, ◌+◌, ◌<◌, ◌≤◌, Bool, true, false, List, [], ◌++◌, Option, Some, None, Result, Ok, Err, length, get_or, take, refl, sym, subst, ◌∙◌, append-nil}
use Rattle.std.specs.Prelude.{◌&&◌, is_none, IfOk}
use Rattle.fkv_playing.specs.Below.fkv_core.Worlds.{WorldModel}
use Rattle.fkv_playing.specs.Below.fkv_core.Event.{Event}
use Rattle.fkv_playing.specs.Below.fkv_core.TheTold.{Told}
use Rattle.fkv_playing.specs.Finishes.{IsFinish}
use Rattle.fkv_playing.specs.Groups.{IsGroup}
use Rattle.fkv_playing.specs.InTurn.{InTurn, Writes}
use Rattle.fkv_playing.specs.Players.{PlayerState}
use Rattle.fkv_playing.specs.Queues.{AreQueuesOf, NobodyHasSteps, QueueState}
use Rattle.fkv_playing.specs.declared.calls.ActorCall.{ActorCall}
use Rattle.fkv_playing.specs.declared.calls.Outcome.{Outcome}
use Rattle.fkv_texts.proofs.Shown.{appends_both, appends_nothing}
use Rattle.fkv_runs.specs.Crashes.{IsCrash}
use Rattle.fkv_map.specs.declared.history.HistoryEntry.{HistoryEntry}
use Rattle.fkv_opening.specs.declared.opened_store.Opened.{Opened}
use Rattle.fkv_runs.specs.Openings.{Begins, Medium}
use Rattle.fkv_runs.specs.Runs.{IsCrashed, IsCrashedWhere, IsFinishStruck, IsGroupPlayed, IsLegOf, IsPiece, IsRun, KeepsSettings, RunModel, RunState, is_due, is_struck_at, state_behind, status_of}
use Rattle.fkv_runs.specs.declared.pieces.Piece.{Piece}
use Rattle.fkv_runs.specs.declared.settings.Settings.{Settings}
use Rattle.fkv_runs.proofs.Turning.{next_taken}

-- the next life begins behind a report
pub crash_taken : {D : Type 0} (medium : Medium D) (settings : Settings) (before : RunState D) (player : PlayerState D) (agrees both : Bool) (a b : Option (List ℕ))
    → both ≡ (before.agrees && agrees) → medium.may_leave before.player.world.device (medium.image before.player.world.device settings.torn)
    → medium.crashes (medium.image before.player.world.device settings.torn) player.world.device
    → Writes (IsCrash medium.holds (medium.image before.player.world.device settings.torn) settings.checks before.player player agrees) a b
    → Writes (IsCrashed medium settings before (record { player = player; agrees = both }) false) a b
crash_taken medium settings before player agrees both a b is left from h =
    (h.0, record { left = left; crash = λ on. (agrees, h.1, is); goes_from = λ on. from; refusal = λ (over : false ≡ true). absurd (cc) }, h.2)

-- so of a run beside its settings
pub run_crashed : {D : Type 0} (medium : Medium D) (run : RunModel D) (settings : Settings) (before : RunState D) (player : PlayerState D) (agrees both : Bool) (a b : Option (List ℕ))
    → record { state = before; settings = settings } ≡ run → both ≡ (before.agrees && agrees) → medium.may_leave before.player.world.device (medium.image before.player.world.device settings.torn)
    → medium.crashes (medium.image before.player.world.device settings.torn) player.world.device
    → Writes (IsCrash medium.holds (medium.image before.player.world.device settings.torn) settings.checks before.player player agrees) a b
    → (settings ≡ run.settings) × Writes (IsCrashed medium run.settings run.state (record { player = player; agrees = both }) false) a b
run_crashed {D} medium run settings before player agrees both a b is joined left from h =
    subst (λ (its : RunModel D). (settings ≡ its.settings) × Writes (IsCrashed medium its.settings its.state (record { player = player; agrees = both }) false) a b) is
    (refl, crash_taken medium settings before player agrees both a b joined left from h)

-- nobody has a step left: nothing is played
pub nothing_left : {D : Type 0} (engine : Event → WorldModel D → WorldModel D → Option Told → Bool → Type 0) (player : PlayerState D) (queues : List QueueState)
    → NobodyHasSteps queues → IsGroup engine (record { player = player; queues = queues }) (record { player = player; queues = queues }) false []
nothing_left engine player queues idle = record { picks = []; last = queues; played = (refl, refl, refl); over = λ on. idle; queues = refl }

-- no crash strikes in a group
pub group_played : {D : Type 0} (medium : Medium D) (settings : Settings) (calls : List ActorCall) (before : RunState D) (player : PlayerState D) (queues left : List QueueState) (a b : Option (List ℕ))
    → AreQueuesOf calls queues
    → Writes (IsGroup medium.engine (record { player = before.player; queues = queues }) (record { player = player; queues = left }) false) a b
    → Writes (IsGroupPlayed medium settings calls before (record { player = player; agrees = before.agrees }) false) a b
group_played medium settings calls before player queues left a b are h = (
  h.0,
  record {
    queues = queues;
    are_queues = are;
    left = left;
    between = record { player = player; agrees = before.agrees };
    first = h.0;
    rest = [];
    leg = record { player = player; struck = false; said = h.0; reported = []; part = h.1; crashed = (refl, refl, refl); says = sym (append-nil h.0) };
    goes_on = λ on. (left, nothing_left medium.engine player left (subst NobodyHasSteps (sym h.1.queues) (h.1.over refl)), refl);
    ends = λ over. refl;
    says = sym (append-nil h.0);
  },
  h.2,
)

-- the image of the crash that strikes in a group is refused
pub group_refused : {D : Type 0} (medium : Medium D) (settings : Settings) (calls : List ActorCall) (before : RunState D) (player : PlayerState D) (state : RunState D) (queues left : List QueueState) (a b c : Option (List ℕ))
    → AreQueuesOf calls queues
    → Writes (IsGroup medium.engine (record { player = before.player; queues = queues }) (record { player = player; queues = left }) true) a b
    → Writes (IsCrashed medium settings (record { player = player; agrees = before.agrees }) state true) b c
    → Writes (IsGroupPlayed medium settings calls before before true) a c
group_refused medium settings calls before player state queues left a b c are h k = (
  h.0 ++ k.0,
  record {
    queues = queues;
    are_queues = are;
    left = left;
    between = state;
    first = h.0 ++ k.0;
    rest = [];
    leg = record { player = player; struck = true; said = h.0; reported = k.0; part = h.1; crashed = k.1; says = refl };
    goes_on = λ (on : true ≡ false). absurd (cc);
    ends = λ over. refl;
    says = sym (append-nil (h.0 ++ k.0));
  },
  appends_both a b c h.0 k.0 h.2 k.2,
)

-- a group goes on behind the crash that strikes in it
pub group_goes_on : {D : Type 0} (medium : Medium D) (settings : Settings) (calls : List ActorCall) (before : RunState D) (player : PlayerState D) (between : RunState D) (next : PlayerState D) (queues left none : List QueueState) (a b c d : Option (List ℕ))
    → AreQueuesOf calls queues
    → Writes (IsGroup medium.engine (record { player = before.player; queues = queues }) (record { player = player; queues = left }) true) a b
    → Writes (IsCrashed medium settings (record { player = player; agrees = before.agrees }) between false) b c
    → Writes (IsGroup medium.engine (record { player = between.player; queues = left }) (record { player = next; queues = none }) false) c d
    → Writes (IsGroupPlayed medium settings calls before (record { player = next; agrees = between.agrees }) false) a d
group_goes_on medium settings calls before player between next queues left none a b c d are h k l = (
  (h.0 ++ k.0) ++ l.0,
  record {
    queues = queues;
    are_queues = are;
    left = left;
    between = between;
    first = h.0 ++ k.0;
    rest = l.0;
    leg = record { player = player; struck = true; said = h.0; reported = k.0; part = h.1; crashed = k.1; says = refl };
    goes_on = λ on. (none, l.1, refl);
    ends = λ (over : false ≡ true). absurd (cc);
    says = refl;
  },
  appends_both a c d (h.0 ++ k.0) l.0 (appends_both a b c h.0 k.0 h.2 k.2) l.2,
)

-- no crash strikes in a finish
pub finish_over : {D : Type 0} (medium : Medium D) (settings : Settings) (before : RunState D) (player : PlayerState D) (outcome : Outcome) (a b : Option (List ℕ))
    → is_struck_at outcome ≡ false
    → Writes (IsFinish medium.engine before.player player outcome) a b
    → Writes (IsLegOf (IsFinishStruck medium) medium settings before (record { player = player; agrees = before.agrees }) false) a b
finish_over medium settings before player outcome a b is h =
    (h.0, record { player = player; struck = false; said = h.0; reported = []; part = (outcome, h.1, sym is); crashed = (refl, refl, refl); says = sym (append-nil h.0) }, h.2)

-- one strikes, and is taken
pub finish_struck : {D : Type 0} (medium : Medium D) (settings : Settings) (before : RunState D) (player : PlayerState D) (outcome : Outcome) (next : Option (RunModel D)) (a b c : Option (List ℕ))
    → is_struck_at outcome ≡ true
    → Writes (IsFinish medium.engine before.player player outcome) a b
    → Writes (IsCrashed medium settings (record { player = player; agrees = before.agrees }) (state_behind (record { player = player; agrees = before.agrees }) next) (is_none next)) b c
    → Writes (IsLegOf (IsFinishStruck medium) medium settings before (state_behind before next) (is_none next)) a c
finish_struck medium settings before player outcome None a b c is h k =
    let crashed : IsCrashed medium settings (record { player = player; agrees = before.agrees }) before true k.0 = record { left = k.1.left; crash = λ (on : true ≡ false). absurd (cc); goes_from = λ (on : true ≡ false). absurd (cc); refusal = k.1.refusal } in
    (h.0 ++ k.0, record { player = player; struck = true; said = h.0; reported = k.0; part = (outcome, h.1, sym is); crashed = crashed; says = refl }, appends_both a b c h.0 k.0 h.2 k.2)
finish_struck medium settings before player outcome (Some run) a b c is h k =
    (h.0 ++ k.0, record { player = player; struck = true; said = h.0; reported = k.0; part = (outcome, h.1, sym is); crashed = k.1; says = refl }, appends_both a b c h.0 k.0 h.2 k.2)

-- at the end a crash that is due is taken
pub end_due : {D : Type 0} (due : Bool) (medium : Medium D) (settings : Settings) (before after : RunState D) (over : Bool) (a b : Option (List ℕ)) → due ≡ true
    → Writes (IsCrashed medium settings before after over) a b → Writes (IsCrashedWhere due medium settings before after over) a b
end_due due medium settings before after over a b is h =
    subst (λ (its : Bool). Writes (IsCrashedWhere its medium settings before after over) a b) (sym is) h

pub end_quiet : {D : Type 0} (due : Bool) (medium : Medium D) (settings : Settings) (state : RunState D) (a : Option (List ℕ)) → due ≡ false
    → Writes (IsCrashedWhere due medium settings state state false) a a
end_quiet due medium settings state a is =
    let quiet : Writes (IsCrashedWhere false medium settings state state false) a a = ([], (refl, refl, refl), appends_nothing a) in
    subst (λ (its : Bool). Writes (IsCrashedWhere its medium settings state state false) a a) (sym is) quiet

-- a run ends with the piece that refuses it
pub run_refused : {D : Type 0} (medium : Medium D) (settings : Settings) (pieces : List Piece) (count : ℕ) (piece : Piece) (before between after : RunState D) (a b c : Option (List ℕ)) → count < length pieces
    → Writes (InTurn (IsPiece medium settings) false (take count pieces) before between false) a b
    → Writes (IsPiece medium settings (get_or pieces count piece) between after true) b c
    → Writes (IsRun medium settings pieces before 3) a c
run_refused medium settings pieces count piece before between after a b c below h k =
    let all = next_taken (IsPiece medium settings) false pieces count piece before between after true a b c below h k in (
      all.0,
      record {
        last = after;
        after = after;
        refused = true;
        over = true;
        said = all.0;
        reported = [];
        count = count + 1;
        played = all.1;
        all = λ (on : true ≡ false). absurd (cc);
        crashed = λ (on : true ≡ false). absurd (cc);
        ends = λ refused. (refl, refl);
        says = sym (append-nil all.0);
        answers = refl;
      },
      all.2,
    )

-- or behind the last one
pub run_ended : {D : Type 0} (medium : Medium D) (settings : Settings) (pieces : List Piece) (count : ℕ) (before last after : RunState D) (over : Bool) (status : ℕ) (a b c : Option (List ℕ)) → length pieces ≤ count
    → Writes (InTurn (IsPiece medium settings) false (take count pieces) before last false) a b
    → Writes (IsCrashedWhere (is_due last.player.waits) medium settings last after over) b c
    → status ≡ status_of over after.agrees
    → Writes (IsRun medium settings pieces before status) a c
run_ended medium settings pieces count before last after over status a b c all h k is = (
  h.0 ++ k.0,
  record {
    last = last;
    after = after;
    refused = false;
    over = over;
    said = h.0;
    reported = k.0;
    count = count;
    played = h.1;
    all = λ on. all;
    crashed = λ on. k.1;
    ends = λ (refused : false ≡ true). absurd (cc);
    says = refl;
    answers = is;
  },
  appends_both a b c h.0 k.0 h.2 k.2,
)

-- The same of a run beside its settings.
pub run_finished : {D : Type 0} (medium : Medium D) (run : RunModel D) (settings : Settings) (before : RunState D) (player : PlayerState D) (outcome : Outcome) (a b : Option (List ℕ))
    → record { state = before; settings = settings } ≡ run → is_struck_at outcome ≡ false
    → Writes (IsFinish medium.engine before.player player outcome) a b
    → (settings ≡ run.settings) × Writes (IsLegOf (IsFinishStruck medium) medium run.settings run.state (record { player = player; agrees = before.agrees }) false) a b
run_finished {D} medium run settings before player outcome a b view is h =
    subst (λ (its : RunModel D). (settings ≡ its.settings) × Writes (IsLegOf (IsFinishStruck medium) medium its.settings its.state (record { player = player; agrees = before.agrees }) false) a b) view
    (refl, finish_over medium settings before player outcome a b is h)

pub run_struck : {D E : Type 0} (medium : Medium D) (run : RunModel D) (settings : Settings) (before : RunState D) (player : PlayerState D) (outcome : Outcome) (result : Result (Option (RunModel D)) E) (a b c : Option (List ℕ))
    → record { state = before; settings = settings } ≡ run → is_struck_at outcome ≡ true
    → Writes (IsFinish medium.engine before.player player outcome) a b
    → IfOk result (λ next. (KeepsSettings settings next) × Writes (IsCrashed medium settings (record { player = player; agrees = before.agrees }) (state_behind (record { player = player; agrees = before.agrees }) next) (is_none next)) b c)
    → IfOk result (λ next. (KeepsSettings run.settings next) × Writes (IsLegOf (IsFinishStruck medium) medium run.settings run.state (state_behind run.state next) (is_none next)) a c)
run_struck {D} medium run settings before player outcome (Ok next) a b c view is h k =
    subst (λ (its : RunModel D). (KeepsSettings its.settings next) × Writes (IsLegOf (IsFinishStruck medium) medium its.settings its.state (state_behind its.state next) (is_none next)) a c) view
    (k.0, finish_struck medium settings before player outcome next a b c is h k.1)
run_struck medium run settings before player outcome (Err fault) a b c view is h k = tt

pub run_grouped : {D : Type 0} (medium : Medium D) (run : RunModel D) (settings : Settings) (calls : List ActorCall) (before : RunState D) (player : PlayerState D) (queues left : List QueueState) (a b : Option (List ℕ))
    → record { state = before; settings = settings } ≡ run → AreQueuesOf calls queues
    → Writes (IsGroup medium.engine (record { player = before.player; queues = queues }) (record { player = player; queues = left }) false) a b
    → (settings ≡ run.settings) × Writes (IsGroupPlayed medium run.settings calls run.state (record { player = player; agrees = before.agrees }) false) a b
run_grouped {D} medium run settings calls before player queues left a b view are h =
    subst (λ (its : RunModel D). (settings ≡ its.settings) × Writes (IsGroupPlayed medium its.settings calls its.state (record { player = player; agrees = before.agrees }) false) a b) view
    (refl, group_played medium settings calls before player queues left a b are h)

pub run_group_refused : {D : Type 0} (medium : Medium D) (run : RunModel D) (settings : Settings) (calls : List ActorCall) (before : RunState D) (player : PlayerState D) (state : RunState D) (queues left : List QueueState) (a b c : Option (List ℕ))
    → record { state = before; settings = settings } ≡ run → AreQueuesOf calls queues
    → Writes (IsGroup medium.engine (record { player = before.player; queues = queues }) (record { player = player; queues = left }) true) a b
    → Writes (IsCrashed medium settings (record { player = player; agrees = before.agrees }) state true) b c
    → Writes (IsGroupPlayed medium run.settings calls run.state run.state true) a c
run_group_refused {D} medium run settings calls before player state queues left a b c view are h k =
    subst (λ (its : RunModel D). Writes (IsGroupPlayed medium its.settings calls its.state its.state true) a c) view
    (group_refused medium settings calls before player state queues left a b c are h k)

pub run_goes_on : {D : Type 0} (medium : Medium D) (run next : RunModel D) (settings later : Settings) (calls : List ActorCall) (before : RunState D) (player : PlayerState D) (between : RunState D) (last : PlayerState D) (queues left none : List QueueState) (a b c d : Option (List ℕ))
    → record { state = before; settings = settings } ≡ run → record { state = between; settings = later } ≡ next → next.settings ≡ settings → AreQueuesOf calls queues
    → Writes (IsGroup medium.engine (record { player = before.player; queues = queues }) (record { player = player; queues = left }) true) a b
    → Writes (IsCrashed medium settings (record { player = player; agrees = before.agrees }) next.state false) b c
    → Writes (IsGroup medium.engine (record { player = between.player; queues = left }) (record { player = last; queues = none }) false) c d
    → (later ≡ run.settings) × Writes (IsGroupPlayed medium run.settings calls run.state (record { player = last; agrees = between.agrees }) false) a d
run_goes_on {D} medium run next settings later calls before player between last queues left none a b c d view behind same are h k l =
    let keeps = subst (λ (its : RunModel D). its.settings ≡ settings) (sym behind) same in
    let crashed = subst (λ (its : RunModel D). Writes (IsCrashed medium settings (record { player = player; agrees = before.agrees }) its.state false) b c) (sym behind) k in
    subst (λ (its : RunModel D). (later ≡ its.settings) × Writes (IsGroupPlayed medium its.settings calls its.state (record { player = last; agrees = between.agrees }) false) a d) view
    (keeps, group_goes_on medium settings calls before player between last queues left none a b c d are h crashed l)

pub run_ends_quiet : {D : Type 0} (medium : Medium D) (run : RunModel D) (settings : Settings) (state : RunState D) (status : ℕ) (a : Option (List ℕ))
    → record { state = state; settings = settings } ≡ run → is_due state.player.waits ≡ false → status ≡ status_of false state.agrees
    → (over : Bool) × (after : RunState D) × (status ≡ status_of over after.agrees) × Writes (IsCrashedWhere (is_due run.state.player.waits) medium run.settings run.state after over) a a
run_ends_quiet {D} medium run settings state status a view is says =
    subst (λ (its : RunModel D). (over : Bool) × (after : RunState D) × (status ≡ status_of over after.agrees) × Writes (IsCrashedWhere (is_due its.state.player.waits) medium its.settings its.state after over) a a) view
    (false, state, says, end_quiet (is_due state.player.waits) medium settings state a is)

pub run_ends_due : {D : Type 0} (medium : Medium D) (run next : RunModel D) (settings later : Settings) (state after : RunState D) (status : ℕ) (a b : Option (List ℕ))
    → record { state = state; settings = settings } ≡ run → record { state = after; settings = later } ≡ next → is_due state.player.waits ≡ true → status ≡ status_of false after.agrees
    → Writes (IsCrashed medium settings state next.state false) a b
    → (over : Bool) × (after : RunState D) × (status ≡ status_of over after.agrees) × Writes (IsCrashedWhere (is_due run.state.player.waits) medium run.settings run.state after over) a b
run_ends_due {D} medium run next settings later state after status a b view behind is says h =
    let crashed = subst (λ (its : RunModel D). Writes (IsCrashed medium settings state its.state false) a b) (sym behind) h in
    subst (λ (its : RunModel D). (over : Bool) × (last : RunState D) × (status ≡ status_of over last.agrees) × Writes (IsCrashedWhere (is_due its.state.player.waits) medium its.settings its.state last over) a b) view
    (false, after, says, end_due (is_due state.player.waits) medium settings state after false a b is crashed)

-- one more piece is played
pub one_more_piece : {D : Type 0} (medium : Medium D) (settings : Settings) (pieces : List Piece) (count : ℕ) (piece : Piece) (first : RunState D) (run next : RunModel D) (a b c : Option (List ℕ)) → count < length pieces → piece ≡ get_or pieces count piece
    → (run.settings ≡ settings) × Writes (InTurn (IsPiece medium settings) false (take count pieces) first run.state false) a b
    → (next.settings ≡ run.settings) × Writes (IsPiece medium run.settings piece run.state next.state false) b c
    → (next.settings ≡ settings) × Writes (InTurn (IsPiece medium settings) false (take (count + 1) pieces) first next.state false) a c
one_more_piece medium settings pieces count piece first run next a b c below is h k =
    let same = subst (λ (its : Settings). Writes (IsPiece medium its piece run.state next.state false) b c) h.0 k.1 in
    let here = subst (λ (its : Piece). Writes (IsPiece medium settings its run.state next.state false) b c) is same in
    (k.0 ∙ h.0, next_taken (IsPiece medium settings) false pieces count piece first run.state next.state false a b c below h.1 here)

-- the run was refused in this piece
pub refused_piece : {D : Type 0} (medium : Medium D) (settings : Settings) (pieces : List Piece) (count : ℕ) (piece : Piece) (first : RunState D) (run : RunModel D) (after : RunState D) (a b c : Option (List ℕ)) → count < length pieces → piece ≡ get_or pieces count piece
    → (run.settings ≡ settings) × Writes (InTurn (IsPiece medium settings) false (take count pieces) first run.state false) a b
    → Writes (IsPiece medium run.settings piece run.state after true) b c
    → Writes (IsRun medium settings pieces first 3) a c
refused_piece medium settings pieces count piece first run after a b c below is h k =
    let same = subst (λ (its : Settings). Writes (IsPiece medium its piece run.state after true) b c) h.0 k in
    let here = subst (λ (its : Piece). Writes (IsPiece medium settings its run.state after true) b c) is same in
    run_refused medium settings pieces count piece first run.state after a b c below h.1 here

-- all pieces are played, and then the run ends
pub behind_last : {D E : Type 0} (medium : Medium D) (settings : Settings) (pieces : List Piece) (count : ℕ) (first : RunState D) (run : RunModel D) (result : Result ℕ E) (a b c : Option (List ℕ)) → length pieces ≤ count
    → (run.settings ≡ settings) × Writes (InTurn (IsPiece medium settings) false (take count pieces) first run.state false) a b
    → IfOk result (λ status. (over : Bool) × (after : RunState D) × (status ≡ status_of over after.agrees) × Writes (IsCrashedWhere (is_due run.state.player.waits) medium run.settings run.state after over) b c)
    → IfOk result (λ status. Writes (IsRun medium settings pieces first status) a c)
behind_last medium settings pieces count first run (Ok status) a b c all h k =
    let same = subst (λ (its : Settings). Writes (IsCrashedWhere (is_due run.state.player.waits) medium its run.state k.1 k.0) b c) h.0 k.3 in
    run_ended medium settings pieces count first run.state k.1 k.0 status a b c all h.1 same k.2
behind_last medium settings pieces count first run (Err fault) a b c all h k = tt

-- the first life begins with no updates that are kept, and is played
pub begun_and_played : {D E : Type 0} (medium : Medium D) (settings : Settings) (pieces : List Piece) (opened : Opened) (device : D) (history : List HistoryEntry) (checks : Bool) (player : PlayerState D) (result : Result ℕ E) (a b : Option (List ℕ)) → history ≡ []
    → Begins opened device history checks player
    → IfOk result (λ status. Writes (IsRun medium settings pieces (record { player = player; agrees = true }) status) a b)
    → IfOk result (λ status. (first : PlayerState D) × Begins opened device [] checks first × Writes (IsRun medium settings pieces (record { player = first; agrees = true }) status) a b)
begun_and_played medium settings pieces opened device history checks player (Ok status) a b none begins played =
    (player, subst (λ (its : List HistoryEntry). Begins opened device its checks player) none begins, played)
begun_and_played medium settings pieces opened device history checks player (Err fault) a b none begins played = tt
