-- What one call more, or one turn, adds to what was told.
use Rattle.std.proofs.Common.{◌≡◌, inl, inr, ℕ, ◌+◌, ◌≤◌, refl, sym, ap, subst, ◌∙◌, true≢false, Bool, true, false, not, List, [], ◌∷◌, ◌++◌, append_assoc, length, length-append, map, take, drop, arith}
use Rattle.std.specs.Prelude.{Option, Some, None, Result, Ok, Err, IfOk, ◌||◌, ◌&&◌, if◌then◌else◌, is_some, slice_get}
use Rattle.std.proofs.lemmas.Bool.{and_parts}
use Rattle.std.proofs.lemmas.List.{drop_all, length-map, take-append-drop, take_more}
use Rattle.std.proofs.lemmas.List.Elements.{All-cons, All-nil}
use Rattle.std.proofs.lemmas.Iterator.Adapters.{YieldsList-from_vec}
use Rattle.std.proofs.lemmas.Iterator.Consumers.{YieldsList-turn}
use Rattle.std.proofs.lemmas.Option.{get_or_from_slice_get, slice_get_read, slice_get_within}
use Rattle.std.specs.Iterator.{Yields}
use Rattle.std.specs.Vec.Iter.{into_iter_items, into_iter_len, into_iter_steps}
use Rattle.std.specs.declared.vec.IntoIter.{IntoIter}
use Rattle.fkv_base.specs.declared.commits.CommitKind.{CommitKind}
use Rattle.fkv_base.specs.declared.faults.Fault.{Fault}
use Rattle.fkv_base.specs.declared.faults.Fault.TheVariants.{Memory}
use Rattle.fkv_base.specs.declared.numbers.Serial.{Serial}
use Rattle.fkv_base.specs.declared.numbers.Version.{Version}
use Rattle.fkv_disk.specs.declared.devices.Device.{Ghosts}
use Rattle.fkv_keeper.specs.declared.answers.Finished.{Finished}
use Rattle.fkv_keeper.specs.declared.answers.Turn.{Turn}
use Rattle.fkv_lines.specs.declared.scripts.Line.{Line}
use Rattle.fkv_map.specs.declared.operations.Call.{Call}
use Rattle.fkv_map.specs.declared.operations.Op.{Op}
use Rattle.fkv_opening.specs.declared.opened_store.Opened.{Opened}
use Rattle.fkv_session.specs.declared.answers.Answer.{Answer}
use Rattle.fkv_threads.specs.Below.fkv_table.Happening.{Happening}
use Rattle.fkv_threads.specs.Below.fkv_table.Happening.TheVariants.{Commits, Turns}
use Rattle.fkv_threads.specs.Below.fkv_table.KeeperCalls.{HasKept}
use Rattle.fkv_threads.specs.Below.fkv_table.Keeps.{IsAfterSeen}
use Rattle.fkv_threads.specs.Below.fkv_table.Starts.{EachAt}
use Rattle.fkv_threads.proofs.Below.fkv_table.Starts.{one_more}
use Rattle.fkv_thread_scripts.specs.Calls.{calls_of}
use Rattle.fkv_thread_scripts.specs.Logs.{accepted_by, durable_by, told_by}
use Rattle.fkv_thread_scripts.specs.declared.logs.Log.{Log}
use Rattle.fkv_threads.specs.Begun.{AreFirst, IsOverStore}
use Rattle.fkv_threads.specs.Models.{IsWatching, Opening, Sitting, Watch, opening}
use Rattle.fkv_threads.specs.Watches.{HasAsked as IsAsked, IsTurnOf}
use Rattle.fkv_threads.specs.Runs.{run_of}
use Rattle.fkv_threading.specs.Told.{AreLogs, HasAsked, HasMade, IsCountedTurn, IsKept, IsLogOf, IsNoted, IsPlayed, IsTold, Part, WasKept, WasTold, WerePlayed, begun_by, fault_by, finish_by, is_full, is_own, newer, part_at, part_of, point_at}
use Rattle.fkv_threading.specs.Told.{Asked, IsLastTold, KeeperCall, KeeperPlace, KeeperRun, TellsBegun, TellsFault, TellsFinish, TellsNone, Turned}
use Rattle.fkv_threads.specs.Below.fkv_world.Runs.{World}
use Rattle.fkv_threads.specs.Below.law_threads.Calls.{CallRun, HasRun}
use Rattle.fkv_threads.specs.Below.law_threads.Turns.{HasTurned}

-- a log of one call more
noted_more : (point : Serial) (log log' : Log) (its : CallRun) (runs : List CallRun) → IsNoted log log' its.call its.answer → IsLogOf point log runs → IsLogOf point log' (its ∷ runs)
noted_more point log log' its runs noted was = record {
  first = noted.first ∙ was.first;
  accepted = noted.accepted ∙ ap (λ (xs : List Op). xs ++ accepted_by its.call its.answer) was.accepted;
  told = noted.told ∙ ap (λ (xs : List Serial). xs ++ told_by its.answer) was.told;
  durable = noted.durable ∙ ap (λ (s : Serial). durable_by s its.answer) was.durable;
}

-- a session's part, by other names of the same
same_part : {K : Type 0} (key key' : K) (number number' : ℕ) (point : Serial) (calls : List Call) → key' ≡ key → number' ≡ number
    → (let part : Part K = record { key = key; number = number; point = point; calls = calls } in part ≡ record { key = key'; number = number'; point = point; calls = calls })
same_part key key' number number' point calls key_is number_is = λ i. record { key = sym key_is i; number = sym number_is i; point = point; calls = calls }

-- the calls answered so far, behind a try of the next one
answered_on : (calls : List Call) (answered answered' : ℕ) (call : Call) (is_answered : Bool) → slice_get calls answered ≡ Some call → is_answered ≡ true → answered' ≡ (if is_answered then answered + 1 else answered)
    → take answered' calls ≡ take answered calls ++ call ∷ []
answered_on calls answered answered' call is_answered found was_answered next =
    let more : answered' ≡ answered + 1 = next ∙ ap (λ (b : Bool). if b then answered + 1 else answered) was_answered in
    ap (λ (n : ℕ). take n calls) more ∙ (take_more calls answered call (slice_get_within calls answered call found) ∙ ap (λ (c : Call). take answered calls ++ c ∷ []) (get_or_from_slice_get calls answered call call found))

or_true : (b : Bool) → (b || true) ≡ true
or_true true = refl
or_true false = refl

-- what holds of each item at its place, and of one more behind them
pub one_at : {X : Type 0} (holds : ℕ → X → Type 0) (xs all : List X) (more : X) → all ≡ xs ++ more ∷ [] → EachAt xs holds → holds (length xs) more → EachAt all holds
one_at holds xs all more pushed each its = (one_more holds (λ x. x) xs all more (map (λ x. x) xs) pushed refl each (subst (λ (n : ℕ). holds n more) (sym (length-map xs (λ x. x))) its)).1

-- the part of the session at the next number, by equal numbers, points and calls
pub seated_at : {K : Type 0} (key its_key : K) (places number its_number : ℕ) (points : List Serial) (point : Serial) (lines : List Line) (calls : List Call) → its_key ≡ key → its_number ≡ places → number ≡ places → point ≡ point_at points number
    → calls ≡ calls_of number lines → (let part : Part K = record { key = its_key; number = its_number; point = point; calls = calls } in part ≡ part_at key points lines places)
seated_at key its_key places number its_number points point lines calls key_is its_is is point_is calls_are =
    let same_point : point ≡ point_at points places = point_is ∙ ap (λ (n : ℕ). point_at points n) is in
    let same_calls : calls ≡ calls_of places lines = calls_are ∙ ap (λ (n : ℕ). calls_of n lines) is in
    λ i. record { key = key_is i; number = its_is i; point = same_point i; calls = same_calls i }

pub promised_at : {K : Type 0} (key : K) (places number : ℕ) (points : List Serial) (point : Serial) (lines : List Line) → number ≡ places → point ≡ point_at points number → part_of key number point lines ≡ part_at key points lines places
promised_at key places number points point lines is point_is =
    let same_point : point ≡ point_at points places = point_is ∙ ap (λ (n : ℕ). point_at points n) is in
    λ i. part_of key (is i) (same_point i) lines

-- ---- what the keeper's calls have told last
abbrev call_run : {D : Type 0} → KeeperCall → List Happening → List Happening → D → D → KeeperRun D
call_run call seen behind medium left = record { call = call; before = seen; behind = behind; medium = medium; left = left }

module _ {D X : Type 0} (Tells : KeeperCall → X → Type 0) where
  -- before the first call it is nothing
  pub last_of_none : IsLastTold {D = D} Tells [] None
  last_of_none = All-nil (TellsNone {D = D} Tells)

  -- behind a call that tells one it is that
  last_now : (run : KeeperRun D) (runs : List (KeeperRun D)) (its : X) → Tells run.call its → IsLastTold Tells (run ∷ runs) (Some its)
  last_now run runs its tells = ([], run, runs, refl, tells, All-nil (TellsNone {D = D} Tells))

  -- behind one that tells none it is what it was
  last_before : (run : KeeperRun D) (runs : List (KeeperRun D)) (before : Option X) → TellsNone Tells run → IsLastTold Tells runs before → IsLastTold Tells (run ∷ runs) before
  last_before run runs (Some its) none (later, that, earlier, split, tells, quiet) = (run ∷ later, that, earlier, ap (λ (rs : List (KeeperRun D)). run ∷ rs) split, tells, All-cons (TellsNone Tells) run later none quiet)
  last_before run runs None none quiet = All-cons (TellsNone Tells) run runs none quiet

module _ {D : Type 0} (medium left : D) (seen behind : List Happening) (runs : List (KeeperRun D)) where
  -- one call more
  abbrev one_more_run : KeeperCall → List (KeeperRun D)
  one_more_run call = call_run call seen behind medium left ∷ runs

  finish_if : (told before : Option Finished) (turn : Turn) → turn.finished ≡ told → IsLastTold TellsFinish runs before → IsLastTold TellsFinish (one_more_run (Turned (Ok turn))) (newer told before)
  finish_if (Some its) before turn is was = last_now TellsFinish (call_run (Turned (Ok turn)) seen behind medium left) runs its is
  finish_if None before turn is was = last_before TellsFinish (call_run (Turned (Ok turn)) seen behind medium left) runs before (λ its tells. true≢false (ap is_some (sym tells ∙ is))) was

  finish_on : (answer : Result Turn Fault) (before : Option Finished) → IsLastTold TellsFinish runs before → IsLastTold TellsFinish (one_more_run (Turned answer)) (finish_by before answer)
  finish_on (Ok turn) before was = finish_if turn.finished before turn refl was
  finish_on (Err why) before was = last_before TellsFinish (call_run (Turned (Err why)) seen behind medium left) runs before (λ its tells. tells) was

  fault_on : (answer : Result Turn Fault) (before : Option Fault) → IsLastTold TellsFault runs before → IsLastTold TellsFault (one_more_run (Turned answer)) (fault_by before answer)
  fault_on (Ok turn) before was = last_before TellsFault (call_run (Turned (Ok turn)) seen behind medium left) runs before (λ its tells. tells) was
  fault_on (Err Memory) before was = last_before TellsFault (call_run (Turned (Err Memory)) seen behind medium left) runs before (λ its tells. tells) was
  fault_on (Err why) before was = last_now TellsFault (call_run (Turned (Err why)) seen behind medium left) runs why refl

  begun_on : (kind : CommitKind) (answer : Result Version Fault) (before : Option Version) → IsLastTold TellsBegun runs before → IsLastTold TellsBegun (one_more_run (Asked kind answer)) (begun_by before answer)
  begun_on kind (Ok number) before was = last_now TellsBegun (call_run (Asked kind (Ok number)) seen behind medium left) runs number refl
  begun_on kind (Err why) before was = last_before TellsBegun (call_run (Asked kind (Err why)) seen behind medium left) runs before (λ its tells. tells) was

module _ {K : Type 0} (at : K → World) where
  -- before its first call a session was told nothing
  pub told_nothing : (part : Part K) (log : Log) (seen : List Happening) → seen ≡ [] → log.first ≡ part.point.0 → log.accepted.items ≡ [] → log.told.items ≡ [] → log.durable ≡ part.point → WasTold at part [] log seen
  told_nothing part log seen none first accepted told durable = record { runs = []; called = none; played = refl; noted = record { first = first; accepted = accepted; told = told; durable = durable } }

  -- a call whose answer is noted is one more: one of its own, or a try
  told_more : (part : Part K) (answered : List Call) (log log' : Log) (call : Call) (answer : Answer) (before behind : List Happening) → HasRun at part.key (run_of part.number call answer before behind) → IsNoted log log' call answer
      → (is_own call || is_full answer) ≡ true → WasTold at part answered log before → WasTold at part answered log' behind
  told_more part answered log log' call answer before behind ran noted spare was =
      let its : CallRun = run_of part.number call answer before behind in
      record {
        runs = its ∷ was.runs;
        called = (ran, refl, refl, was.called);
        played = inl (spare, was.played);
        noted = noted_more part.point log log' its was.runs noted was.noted;
      }

  -- or one of its lines
  told_answer : (part : Part K) (answered : List Call) (log log' : Log) (call : Call) (answer : Answer) (before behind : List Happening) → HasRun at part.key (run_of part.number call answer before behind) → IsNoted log log' call answer → is_full answer ≡ false
      → WasTold at part answered log before → WasTold at part (answered ++ call ∷ []) log' behind
  told_answer part answered log log' call answer before behind ran noted answers was =
      let its : CallRun = run_of part.number call answer before behind in
      record {
        runs = its ∷ was.runs;
        called = (ran, refl, refl, was.called);
        played = inr (answered, refl, answers, was.played);
        noted = noted_more part.point log log' its was.runs noted was.noted;
      }

  -- a call of its own, by the session behind it
  pub told_own : (seat seat' : Sitting K) (point : Serial) (calls answered : List Call) (log log' : Log) (call : Call) (answer : Answer) → HasMade at seat seat' call answer log log' → is_own call ≡ true
      → WasTold at (record { key = seat.key; number = seat.number; point = point; calls = calls }) answered log seat.seen → WasTold at (record { key = seat'.key; number = seat'.number; point = point; calls = calls }) answered log' seat'.seen
  told_own seat seat' point calls answered log log' call answer made own was =
      subst (λ (part : Part K). WasTold at part answered log' seat'.seen) (same_part seat.key seat'.key seat.number seat'.number point calls made.key made.number)
      (told_more (record { key = seat.key; number = seat.number; point = point; calls = calls }) answered log log' call answer seat.seen seat'.seen made.ran made.noted (ap (λ (b : Bool). b || is_full answer) own) was)

  either : (part : Part K) (calls : List Call) (answered answered' : ℕ) (log log' : Log) (call : Call) (answer : Answer) (full is_answered : Bool) (before behind : List Happening) → HasRun at part.key (run_of part.number call answer before behind)
      → IsNoted log log' call answer → slice_get calls answered ≡ Some call → full ≡ is_full answer → is_answered ≡ not full → answered' ≡ (if is_answered then answered + 1 else answered)
      → WasTold at part (take answered calls) log before → WasTold at part (take answered' calls) log' behind
  either part calls answered answered' log log' call answer true is_answered before behind ran noted found full answers next was =
      let same : take answered calls ≡ take answered' calls = ap (λ (n : ℕ). take n calls) (sym (next ∙ ap (λ (b : Bool). if b then answered + 1 else answered) answers)) in
      let spare : (is_own call || is_full answer) ≡ true = ap (λ (b : Bool). is_own call || b) (sym full) ∙ or_true (is_own call) in
      subst (λ (cs : List Call). WasTold at part cs log' behind) same (told_more part (take answered calls) log log' call answer before behind ran noted spare was)
  either part calls answered answered' log log' call answer false is_answered before behind ran noted found full answers next was =
      subst (λ (cs : List Call). WasTold at part cs log' behind) (sym (answered_on calls answered answered' call is_answered found answers next))
      (told_answer part (take answered calls) log log' call answer before behind ran noted (sym full) was)

  -- the next call of its lines, or a try of it, by the session behind it
  pub told_next : (seat seat' : Sitting K) (point : Serial) (calls : List Call) (answered answered' : ℕ) (log log' : Log) (call : Call) (answer : Answer) (full is_answered : Bool) → HasMade at seat seat' call answer log log' → slice_get calls answered ≡ Some call → full ≡ is_full answer
      → is_answered ≡ not full → answered' ≡ (if is_answered then answered + 1 else answered) → WasTold at (record { key = seat.key; number = seat.number; point = point; calls = calls }) (take answered calls) log seat.seen
      → WasTold at (record { key = seat'.key; number = seat'.number; point = point; calls = calls }) (take answered' calls) log' seat'.seen
  told_next seat seat' point calls answered answered' log log' call answer full is_answered made found is_it answers next was =
      subst (λ (part : Part K). WasTold at part (take answered' calls) log' seat'.seen) (same_part seat.key seat'.key seat.number seat'.number point calls made.key made.number)
      (either (record { key = seat.key; number = seat.number; point = point; calls = calls }) calls answered answered' log log' call answer full is_answered seat.seen seat'.seen made.ran made.noted found is_it answers next was)

  -- a session that has ended: its answered calls are the first of its lines
  pub told_all : (part : Part K) (answered : ℕ) (whole : Bool) (log : Log) (seen : List Happening) → (whole ≡ true → length part.calls ≤ answered) → WasTold at part (take answered part.calls) log seen → IsTold at part whole log
  told_all part answered whole log seen all was = record {
    seen = seen;
    answered = take answered part.calls;
    left = drop answered part.calls;
    calls = sym (take-append-drop answered part.calls);
    all = λ is. drop_all answered part.calls (all is);
    told = was;
  }

  -- so it is if less is said of it
  pub told_less : (part : Part K) (whole whole' : Bool) (log : Log) → (whole' ≡ true → whole ≡ true) → IsTold at part whole log → IsTold at part whole' log
  told_less part whole whole' log less its = record { seen = its.seen; answered = its.answered; left = its.left; calls = its.calls; all = λ is. its.all (less is); told = its.told }

  -- one log more, that of the session at the next number
  pub logs_more : (key : K) (points : List Serial) (lines : List Line) (whole whole' its_whole : Bool) (logs all : List Log) (log : Log) (part : Part K) → all ≡ logs ++ log ∷ [] → whole' ≡ (whole && its_whole) → AreLogs at key points lines whole logs → part ≡ part_at key points lines (length logs)
      → IsTold at part its_whole log → AreLogs at key points lines whole' all
  logs_more key points lines whole whole' its_whole logs all log part pushed both each part_is its =
      let first : (whole' ≡ true → whole ≡ true) = λ e. (and_parts whole its_whole (sym both ∙ e)).0 in
      let this : (whole' ≡ true → its_whole ≡ true) = λ e. (and_parts whole its_whole (sym both ∙ e)).1 in
      one_at (λ number l. IsTold at (part_at key points lines number) whole' l) logs all log pushed (λ i x found. told_less (part_at key points lines i) whole whole' x first (each i x found))
      (told_less (part_at key points lines (length logs)) its_whole whole' log this (subst (λ (p : Part K). IsTold at p its_whole log) part_is its))

-- what threads leave at the table of a store that was opened
pub is_played : {X E D : Type 0} (device : Ghosts D) (whole : X → Bool) (logs : X → List Log) (medium : X → D) (finished : X → Option Finished) (begun : X → Option Version) (fault : X → Option Fault) (r : Result X E) (key : Opening D) (opened : Opened) (lines : List Line) (first its_first : D) (points : List Serial) (sessions : ℕ)
    → IsOverStore (opening device) key opened (device.seen first) → sessions ≡ opened.shape.sessions → points ≡ opened.points.items → its_first ≡ first → IfOk r (λ x. WerePlayed device key its_first points lines sessions (whole x) (logs x) (medium x) (finished x) (begun x) (fault x))
    → IfOk r (λ x. IsPlayed device opened lines first (whole x) (logs x) (medium x) (finished x) (begun x) (fault x))
is_played {D = D} device whole logs medium finished begun fault (Ok x) key opened lines first its_first points sessions over count same begins played = record {
  key = key;
  over = over;
  played = subst (λ (z : ℕ × List Serial × D). WerePlayed device key z.2 z.1 lines z.0 (whole x) (logs x) (medium x) (finished x) (begun x) (fault x)) (λ i. (count i, same i, begins i)) played;
}
is_played device whole logs medium finished begun fault (Err e) key opened lines first its_first points sessions over count same begins played = tt

-- as many as there were taken, and one more of each
pub counted : {X Y : Type 0} (xs all : List X) (more : X) (ys : List Y) (next : Y) → all ≡ xs ++ more ∷ [] → length xs ≡ length ys → length all ≡ length (ys ++ next ∷ [])
counted xs all more ys next pushed same = omega (arith, same, ap length pushed, length-append xs (more ∷ []), length-append ys (next ∷ []))

-- what the iterator of a list gives next stands there behind what it gave
pub next_at : {X Z : Type 0} (items given : List X) (first at behind : IntoIter X Z) (next : Option X) (item : X) → into_iter_items first ≡ items → into_iter_len first ≡ length items → Yields into_iter_steps first given at → next ≡ Some item → into_iter_steps at next behind → slice_get items (length given) ≡ Some item
next_at items given first at behind next item held counted by is step =
    let turn = YieldsList-turn (YieldsList-from_vec {s = first} items held counted) given at by next behind item is step in
    slice_get_read items (length items) (length given) item refl turn.0 turn.1

-- ---- a call of the keeper more
module _ {D : Type 0} (device : Ghosts D) where
  -- before the first one nothing was seen, and the device is the first
  pub kept_nothing : (key : Opening D) (first medium : D) (seen : List Happening) → seen ≡ [] → medium ≡ first → WasKept device key first None None None seen medium
  kept_nothing key first medium seen none same =
      record { runs = []; kept = (none, same); last = last_of_none TellsFinish; last_begun = last_of_none TellsBegun; refused = last_of_none TellsFault }

  -- a commit that is asked for is one call more
  pub asked_more : (key : Opening D) (first : D) (kind : CommitKind) (finished : Option Finished) (begun begun' : Option Version) (fault : Option Fault) (answer : Result Version Fault) (seen behind : List Happening) (medium left : D) → HasAsked (opening device) key behind answer
      → HasKept (Commits kind) seen behind → left ≡ medium → begun' ≡ begun_by begun answer → WasKept device key first finished begun fault seen medium → WasKept device key first finished begun' fault behind left
  asked_more key first kind finished begun begun' fault answer seen behind medium left asked kept same next was =
      let run : KeeperRun D = call_run (Asked kind answer) seen behind medium left in
      record {
        runs = run ∷ was.runs;
        kept = ((kept, asked, same), refl, refl, was.kept);
        last = last_before TellsFinish run was.runs finished (λ its tells. tells) was.last;
        last_begun = subst (IsLastTold TellsBegun (run ∷ was.runs)) (sym next) (begun_on medium left seen behind was.runs kind answer begun was.last_begun);
        refused = last_before TellsFault run was.runs fault (λ its tells. tells) was.refused;
      }

  -- and so is a turn
  pub turned_more : (key : Opening D) (first : D) (finished finished' : Option Finished) (begun : Option Version) (fault fault' : Option Fault) (answer : Result Turn Fault) (seen behind : List Happening) (medium left : D) → HasTurned (opening device) key behind answer
      → HasKept Turns seen behind → IsCountedTurn device answer medium left → finished' ≡ finish_by finished answer → fault' ≡ fault_by fault answer → WasKept device key first finished begun fault seen medium → WasKept device key first finished' begun fault' behind left
  turned_more key first finished finished' begun fault fault' answer seen behind medium left turned kept counted next refuses was =
      let run : KeeperRun D = call_run (Turned answer) seen behind medium left in
      record {
        runs = run ∷ was.runs;
        kept = ((kept, turned, counted), refl, refl, was.kept);
        last = subst (IsLastTold TellsFinish (run ∷ was.runs)) (sym next) (finish_on medium left seen behind was.runs answer finished was.last);
        last_begun = last_before TellsBegun run was.runs begun (λ its tells. tells) was.last_begun;
        refused = subst (IsLastTold TellsFault (run ∷ was.runs)) (sym refuses) (fault_on medium left seen behind was.runs answer fault was.refused);
      }

-- a turn of the keeper, as the thread law speaks of it
pub has_turned : {D : Type 0} (device : Ghosts D) (w w' : Watch (Opening D) D) (answer : Result Turn Fault) → IsTurnOf device w answer w' → HasTurned (opening device) w.key w'.seen answer
has_turned {D} device w w' answer turned =
    subst (λ (key : Opening D). HasTurned (opening device) key w'.seen answer) turned.same.key
    (let its = turned.watching in record {
      table = w'.table;
      seat = its.pass;
      me = its.me;
      machine = w'.machine;
      ready = record { opened = its.its.work.opened; same_table = its.its.work.same_table; keeping = its.its.work.keeping; idle = its.its.so.idle turned.over };
      seen = its.seen;
      told = turned.told;
    })

-- a commit that was asked for
pub has_asked : {D : Type 0} (device : Ghosts D) (kind : CommitKind) (w w' : Watch (Opening D) D) (answer : Result Version Fault) → IsAsked device kind w answer w' → HasAsked (opening device) w.key w'.seen answer
has_asked {D} device kind w w' answer asked =
    subst (λ (key : Opening D). HasAsked (opening device) key w'.seen answer) asked.same.key
    (let its = asked.watching in record {
      table = w'.table;
      seat = its.pass;
      me = its.me;
      machine = w'.machine;
      ready = record { opened = its.its.work.opened; same_table = its.its.work.same_table; keeping = its.its.work.keeping; idle = its.its.so.idle asked.over };
      seen = its.seen;
      told = asked.told;
    })

-- the keeper's device, as the keeper has seen it
pub is_kept : {D : Type 0} (device : Ghosts D) (w : Watch (Opening D) D) (place : KeeperPlace D) (first medium : D) (finished : Option Finished) (begun : Option Version) (fault : Option Fault) → record { key = w.key; first = first } ≡ place → medium ≡ w.device → IsWatching device w
    → WasKept device w.key first finished begun fault w.seen w.device → IsKept device place.key place.first medium finished begun fault
is_kept {D} device w place first medium finished begun fault same is its was =
    subst (λ (z : KeeperPlace D × D). IsKept device z.0.key z.0.first z.1 finished begun fault) (λ i. (same i, sym is i))
    (record {
      seen = w.seen;
      is_honest = its.its.honest;
      behind = subst (λ (es : List Happening). IsAfterSeen (opening device) w.key es (device.seen w.device) (device.may_leave w.device)) its.seen its.its.after;
      told = was;
    })
