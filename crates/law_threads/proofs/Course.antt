-- How a call goes on in the list of events, from its start on, and what callers see of it.
use Rattle.std.proofs.Common.{◌≡◌, ◌⊎◌, inl, inr, ℕ, ◌∙◌, refl, sym, ap, subst, arith, Bool, true, false, List, [], ◌∷◌, ◌++◌, length, append_assoc}
use Rattle.std.specs.Prelude.{⊤, Some, slice_get, ◌==◌, if◌then◌else◌}
use Rattle.std.proofs.lemmas.Bool.Decides.{nat_tests}
use Rattle.fkv_epoch.proofs.Shown.{some_same}
use Rattle.fkv_map.specs.declared.operations.Call.{Call}
use Rattle.fkv_seats.specs.declared.views.Role.TheVariants.{Sits}
use Rattle.fkv_seats.specs.Rule.{led, speaks}
use Rattle.law_order.specs.Below.fkv_session.Finished.{Finished}
use Rattle.law_order.specs.Below.fkv_session.Told.{Told}
use Rattle.law_order.specs.Below.fkv_session.Sitting.{Sitting}
use Rattle.law_order.specs.Below.fkv_session.Sitting.TheVariants.{Idle}
use Rattle.law_order.specs.Below.fkv_session.SessionRun.{telling}
use Rattle.law_order.specs.Below.fkv_session.Sessions.{SessionState, is_busy, session_begun}
use Rattle.law_order.specs.Below.fkv_world.Past.{Traced, TraceEvent, Called, Answered}
use Rattle.law_order.specs.Below.fkv_world.Runs.{World, happens}
use Rattle.law_order.specs.Below.fkv_world.World as world
use Rattle.law_order.specs.Below.law_world.Runs.Added.{begun_by, call_answered, call_begun, ended_by, told_at, told_by}
use Rattle.law_order.proofs.Below.law_world.OfRuns.Added.{trace_so}
use Rattle.law_order.proofs.Below.law_refine.OfCalls.Telling.{AreOfKeeper, alive_told, is_of_keeper}
use Rattle.law_order.proofs.Below.law_refine.OfCalls.Called.{is_other}
use Rattle.law_order.proofs.Below.law_refine.OfCalls.Life.{AreOthers, keepers_other}
use Rattle.law_order.proofs.OfReads.LifeNumbers.{begins_other, begins_trace, goes_other}
use Rattle.law_order.proofs.OfReads.Turns.{Goes, Turn, Rests, BeginsOne, GoesOne, moved_to, turn_of}
use Rattle.fkv_table.specs.Calls.{OnlyMoves}
use Rattle.fkv_table.specs.declared.happenings.Happening.{Happening}
use Rattle.fkv_table.specs.declared.happenings.Happening.TheVariants.{Calls, Moves, Commits, Turns, KeeperMoves}
use Rattle.fkv_table.specs.Events.{actor_of, event_of}
use Rattle.fkv_table.specs.Planes.{plane}
use Rattle.fkv_table.proofs.Lives.{alive}

-- of others than the session
abbrev pub OfOthers : ℕ → List Traced → Type 0
OfOthers number [] = ⊤
OfOthers number (it ∷ before) = is_other number it.its × OfOthers number before

others_at : (number effects : ℕ) (told : List TraceEvent) → AreOthers number told → OfOthers number (told_at effects told)
others_at number effects [] all = tt
others_at number effects (it ∷ before) all = (all.0, others_at number effects before all.1)

others_both : (number : ℕ) (later before : List Traced) → OfOthers number later → OfOthers number before → OfOthers number (later ++ before)
others_both number [] before ones others = others
others_both number (it ∷ later) before ones others = (ones.0, others_both number later before ones.1 others)

same_number : (n : ℕ) → (n == n) ≡ true
same_number n = grind (arith, nat_tests)

is_same : (n k : ℕ) → (n == k) ≡ true → n ≡ k
is_same n k e = grind (arith, nat_tests, e)

last_of : (xs : List TraceEvent) (it : TraceEvent) → AreOfKeeper (xs ++ it ∷ []) → is_of_keeper it
last_of [] it all = all.0
last_of (x ∷ xs) it all = last_of xs it all.1

-- callers see this of a call, behind what they saw before its start
abbrev pub seen_called : ℕ → ℕ → Call → List Traced → List Traced
seen_called effects number its trace = record { its = Called number its; effects = effects } ∷ trace

abbrev pub seen_answered : ℕ → ℕ → Told → List Finished → List Traced → List Traced
seen_answered effects number its finished trace = record { its = Answered number (telling its finished); effects = effects } ∷ trace

module _ {K : Type 0} (at : K → World) (opening : World) (number : ℕ) (call : Call) (rest : List Happening) where
  abbrev pub after : List Happening → World
  after es = led (plane at) opening es

  abbrev pub trace_of : List Happening → List Traced
  trace_of es = (after es).past.trace

  abbrev pub called_at : List Happening
  called_at = Calls number call ∷ rest

  -- it is in hand
  pub record InHand (es : List Happening) : Type 0 where
    pub s : SessionState
    pub found : slice_get (after es).now.sessions number ≡ Some s
    pub busy : is_busy s.step ≡ true
    pub since : List Traced
    pub others : OfOthers number since
    pub effects : ℕ
    pub so : trace_of es ≡ since ++ seen_called effects number call (trace_of rest)

  -- it was answered as it began, or by a step of its session
  pub record ByStep (its : Told) (finished : List Finished) (es : List Happening) : Type 0 where
    pub later : List Happening
    pub between : List Happening
    pub all : es ≡ later ++ Moves number ∷ (between ++ called_at)
    pub hand : InHand (between ++ called_at)
    pub adds : told_by (after (between ++ called_at)).now (happens (after (between ++ called_at)) (world.Moves number)).now (world.Moves number) ≡ Answered number (telling its finished) ∷ []

  pub data Answering (its : Told) (finished : List Finished) (es : List Happening) : Type 0 where
    AtOnce : (s : SessionState) → (session_begun (world.seat_at (after rest).now number) s call).step ≡ Idle its → (session_begun (world.seat_at (after rest).now number) s call).finished ≡ finished → Answering its finished es
    InTurn : ByStep its finished es → Answering its finished es

  -- it is over
  pub record HasEnded (es : List Happening) : Type 0 where
    pub s : SessionState
    pub found : slice_get (after es).now.sessions number ≡ Some s
    pub idle : is_busy s.step ≡ false
    pub its : Told
    pub finished : List Finished
    pub how : Answering its finished es
    pub since : List Traced
    pub others : OfOthers number since
    pub effects : ℕ
    pub more : List Traced
    pub more_others : OfOthers number more
    pub began : ℕ
    pub so : trace_of es ≡ since ++ seen_answered effects number its finished (more ++ seen_called began number call (trace_of rest))

  pub data Course (es : List Happening) : Type 0 where
    Going : InHand es → Course es
    Over : HasEnded es → Course es

  -- ---- an event that tells nothing of the session and leaves it
  stays : (es : List Happening) (e : Happening) → AreOthers number (told_by (after es).now (happens (after es) (event_of e)).now (event_of e))
      → slice_get (happens (after es) (event_of e)).now.sessions number ≡ slice_get (after es).now.sessions number → Course es → Course (e ∷ es)
  unfolding led
  stays es e others same (Going hand) = Going (record {
    s = hand.s;
    found = same ∙ hand.found;
    busy = hand.busy;
    since = told ++ hand.since;
    others = others_both number told hand.since (others_at number (length (happens (after es) (event_of e)).past.history) _ others) hand.others;
    effects = hand.effects;
    so = trace_so (after es) (event_of e) ∙ (ap (λ (x : List Traced). told ++ x) hand.so ∙ sym (append_assoc told hand.since (seen_called hand.effects number call (trace_of rest))));
  })
    where
      told : List Traced
      told = told_at (length (happens (after es) (event_of e)).past.history) (told_by (after es).now (happens (after es) (event_of e)).now (event_of e))
  stays es e others same (Over over) = Over (record {
    s = over.s;
    found = same ∙ over.found;
    idle = over.idle;
    its = over.its;
    finished = over.finished;
    how = one_later over.how;
    since = told ++ over.since;
    others = others_both number told over.since (others_at number (length (happens (after es) (event_of e)).past.history) _ others) over.others;
    effects = over.effects;
    more = over.more;
    more_others = over.more_others;
    began = over.began;
    so = trace_so (after es) (event_of e)
        ∙ (ap (λ (x : List Traced). told ++ x) over.so ∙ sym (append_assoc told over.since (seen_answered over.effects number over.its over.finished (over.more ++ seen_called over.began number call (trace_of rest)))));
  })
    where
      told : List Traced
      told = told_at (length (happens (after es) (event_of e)).past.history) (told_by (after es).now (happens (after es) (event_of e)).now (event_of e))

      one_later : Answering over.its over.finished es → Answering over.its over.finished (e ∷ es)
      one_later (AtOnce s is list) = AtOnce s is list
      one_later (InTurn its) = InTurn (record { later = e ∷ its.later; between = its.between; all = ap (λ (x : List Happening). e ∷ x) its.all; hand = its.hand; adds = its.adds })

  -- ---- a step of the session
  ends : (es : List Happening) (between : List Happening) (hand : InHand (between ++ called_at)) (step : Sitting) (finished : List Finished) (s : SessionState) → s.step ≡ step → s.finished ≡ finished
      → slice_get (happens (after (between ++ called_at)) (world.Moves number)).now.sessions number ≡ Some s
      → told_by (after (between ++ called_at)).now (happens (after (between ++ called_at)) (world.Moves number)).now (world.Moves number) ≡ call_answered number true step finished
      → Course (Moves number ∷ (between ++ called_at))
  unfolding led
  ends es between hand (Idle its) finished s is list found told = Over (record {
    s = s;
    found = found;
    idle = ap is_busy is;
    its = its;
    finished = finished;
    how = InTurn (record { later = []; between = between; all = refl; hand = hand; adds = told });
    since = [];
    others = tt;
    effects = length (happens (after (between ++ called_at)) (world.Moves number)).past.history;
    more = hand.since;
    more_others = hand.others;
    began = hand.effects;
    so = trace_so (after (between ++ called_at)) (world.Moves number)
        ∙ (ap (λ (x : List TraceEvent). told_at (length (happens (after (between ++ called_at)) (world.Moves number)).past.history) x ++ trace_of (between ++ called_at)) told
        ∙ ap (λ (x : List Traced). seen_answered (length (happens (after (between ++ called_at)) (world.Moves number)).past.history) number its finished x) hand.so);
  })
  ends es between hand step finished s is list found told = goes_on
    where
      goes_on : Course (Moves number ∷ (between ++ called_at))
      goes_on = Going (record {
        s = s;
        found = found;
        busy = ap is_busy is;
        since = hand.since;
        others = hand.others;
        effects = hand.effects;
        so = trace_so (after (between ++ called_at)) (world.Moves number)
            ∙ (ap (λ (x : List TraceEvent). told_at (length (happens (after (between ++ called_at)) (world.Moves number)).past.history) x ++ trace_of (between ++ called_at)) told ∙ hand.so);
      })

  own_step : (between : List Happening) (goes : Goes (after (between ++ called_at)) (world.Moves number)) → goes.number ≡ number → Course (between ++ called_at) → Course (Moves number ∷ (between ++ called_at))
  own_step between goes own (Going hand) =
      let w : World = after (between ++ called_at) in
      let to : SessionState = moved_to w goes.number goes.s in
      ends [] between hand to.step to.finished to refl refl (ap (λ (k : ℕ). slice_get (happens w (world.Moves number)).now.sessions k) (sym own) ∙ goes.now)
      (goes.told ∙ ap (λ (k : ℕ). call_answered k true to.step to.finished) own)
  own_step between goes own (Over over) = absurd (clash (some_same _ _ (sym (ap (λ (k : ℕ). slice_get (after (between ++ called_at)).now.sessions k) (sym own) ∙ goes.found) ∙ over.found)))
    where
      clash : goes.s ≡ over.s → ⊥
      clash e = both (sym goes.busy ∙ (ap (λ (x : SessionState). is_busy x.step) e ∙ over.idle))
        where
          both : true ≡ false → ⊥
          both e = cc

  moves_once : (n k : ℕ) → world.Moves n ≡ world.Moves k → n ≡ k
  moves_once n k e = cc

  no_call : (n k : ℕ) (c : Call) → world.Moves n ≡ world.Calls k c → ⊥
  no_call n k c e = cc

  other_caller : (e : Happening) (k : ℕ) (c : Call) → speaks (Sits number) (actor_of e) ≡ false → event_of e ≡ world.Calls k c → (k == number) ≡ false
  other_caller (Calls n its) k c other is = ap (λ (x : ℕ). x == number) (sym (caller is)) ∙ other
    where
      caller : world.Calls n its ≡ world.Calls k c → n ≡ k
      caller e = cc
  other_caller (Moves n) k c other is = absurd (no_call n k c is)
  other_caller (Commits kind) k c other is = cc
  other_caller Turns k c other is = cc
  other_caller (KeeperMoves granted done) k c other is = cc

  other_mover : (e : Happening) (k : ℕ) → speaks (Sits number) (actor_of e) ≡ false → event_of e ≡ world.Moves k → (k == number) ≡ false
  other_mover (Calls n its) k other is = absurd (no_call k n its (sym is))
  other_mover (Moves n) k other is = ap (λ (x : ℕ). x == number) (sym (moves_once n k is)) ∙ other
  other_mover (Commits kind) k other is = cc
  other_mover Turns k other is = cc
  other_mover (KeeperMoves granted done) k other is = cc

  by_other : (es : List Happening) (e : Happening) → speaks (Sits number) (actor_of e) ≡ false → Turn (after es) (event_of e) → Course es → Course (e ∷ es)
  by_other es e other (Rests quiet own stay) so = stays es e (keepers_other number _ quiet) (stay number) so
  by_other es e other (BeginsOne its) so = let apart = other_caller e its.number its.its other its.is in stays es e (begins_other (after es) (event_of e) number its apart) (its.others number apart) so
  by_other es e other (GoesOne its) so = let apart = other_mover e its.number other its.is in stays es e (goes_other (after es) (event_of e) number its apart) (its.others number apart) so

  by_own : (between : List Happening) → Turn (after (between ++ called_at)) (world.Moves number) → Course (between ++ called_at) → Course (Moves number ∷ (between ++ called_at))
  by_own between (Rests quiet own stay) so = stays (between ++ called_at) (Moves number) (keepers_other number _ quiet) (stay number) so
  by_own between (BeginsOne its) so = absurd (no_call number its.number its.its its.is)
  by_own between (GoesOne its) so = own_step between its (sym (moves_once number its.number its.is)) so

  module _ (goes_on : opening.now.crashed ≡ false) (s : SessionState) (found : slice_get (after rest).now.sessions number ≡ Some s) (idle : is_busy s.step ≡ false) where
    -- ---- its start
    begins_at : (step : Sitting) (to : SessionState) → to ≡ session_begun (world.seat_at (after rest).now number) s call → to.step ≡ step → slice_get (happens (after rest) (world.Calls number call)).now.sessions number ≡ Some to
        → (happens (after rest) (world.Calls number call)).past.trace
        ≡ told_at (length (happens (after rest) (world.Calls number call)).past.history) (call_answered number true step to.finished) ++ seen_called (length (happens (after rest) (world.Calls number call)).past.history) number call (trace_of rest)
        → Course called_at
    unfolding led
    begins_at (Idle its) to begun is there told = Over (record {
      s = to;
      found = there;
      idle = ap is_busy is;
      its = its;
      finished = to.finished;
      how = AtOnce s (ap (λ (x : SessionState). x.step) (sym begun) ∙ is) (ap (λ (x : SessionState). x.finished) (sym begun));
      since = [];
      others = tt;
      effects = length (happens (after rest) (world.Calls number call)).past.history;
      more = [];
      more_others = tt;
      began = length (happens (after rest) (world.Calls number call)).past.history;
      so = told;
    })
    begins_at step to begun is there told = in_hand
      where
        in_hand : Course called_at
        in_hand = Going (record { s = to; found = there; busy = ap is_busy is; since = []; others = tt; effects = length (happens (after rest) (world.Calls number call)).past.history; so = told })

    starts : begun_by (after rest).now (world.Calls number call) ≡ Called number call ∷ []
    unfolding begun_by
    starts = ap (call_begun number call) found ∙ ap (λ (b : Bool). if b then [] else Called number call ∷ []) idle

    -- callers see its start
    pub call_told : told_by (after rest).now (happens (after rest) (world.Calls number call)).now (world.Calls number call) ≡ ended_by (after rest).now (happens (after rest) (world.Calls number call)).now (world.Calls number call) ++ Called number call ∷ []
    call_told = alive_told (after rest) (world.Calls number call) (alive at opening rest goes_on) ∙ ap (λ (x : List TraceEvent). ended_by (after rest).now (happens (after rest) (world.Calls number call)).now (world.Calls number call) ++ x) starts

    -- an idle session begins the call
    begun : Turn (after rest) (world.Calls number call) → Course called_at
    begun (BeginsOne its) =
        let same : its.number ≡ number = sym (caller its.is).0 in
        let to : SessionState = session_begun (world.seat_at (after rest).now its.number) its.s its.its in
        begins_at to.step to (λ i. session_begun (world.seat_at (after rest).now (same i)) (the_same same its.found i) (sym (caller its.is).1 i)) refl
        (ap (λ (k : ℕ). slice_get (happens (after rest) (world.Calls number call)).now.sessions k) (sym same) ∙ its.now)
        (begins_trace (after rest) (world.Calls number call) its ∙ λ i. told_at (length (happens (after rest) (world.Calls number call)).past.history) (call_answered (same i) true to.step to.finished) ++ seen_called (length (happens (after rest) (world.Calls number call)).past.history) (same i) (sym (caller its.is).1 i) (trace_of rest))
      where
        caller : {k : ℕ} {c : Call} → world.Calls number call ≡ world.Calls k c → (number ≡ k) × (call ≡ c)
        caller e = (cc, cc)

        the_same : {k : ℕ} {x : SessionState} → k ≡ number → slice_get (after rest).now.sessions k ≡ Some x → x ≡ s
        the_same {k} {x} same there = some_same x s (sym (ap (λ (j : ℕ). slice_get (after rest).now.sessions j) (sym same) ∙ there) ∙ found)
    begun (Rests quiet own stay) = absurd (last_of _ (Called number call) (subst AreOfKeeper call_told quiet))
    begun (GoesOne its) = absurd (no_call its.number number call (sym its.is))

    one_on : (e : Happening) (steps : List Happening) → (e ≡ Moves number) ⊎ (speaks (Sits number) (actor_of e) ≡ false) → Course (steps ++ called_at) → Course (e ∷ (steps ++ called_at))
    one_on e steps (inl own) so = subst (λ (x : Happening). Course (x ∷ (steps ++ called_at))) (sym own) (by_own steps (turn_of (after (steps ++ called_at)) (world.Moves number) (alive at opening (steps ++ called_at) goes_on)) so)
    one_on e steps (inr other) so = by_other (steps ++ called_at) e other (turn_of (after (steps ++ called_at)) (event_of e) (alive at opening (steps ++ called_at) goes_on)) so

    pub course : (steps : List Happening) → OnlyMoves number steps → Course (steps ++ called_at)
    course [] only = begun (turn_of (after rest) (world.Calls number call) (alive at opening rest goes_on))
    course (e ∷ steps) only = one_on e steps only.0 (course steps only.1)
