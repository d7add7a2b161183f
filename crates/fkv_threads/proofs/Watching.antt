-- What the thread law says of the keeper's calls at its table.
use Rattle.std.proofs.Common.{◌≡◌, inl, inr, ℕ, Bool, true, false, List, [], ◌∷◌, ◌++◌, refl, ap, sym, subst, ◌∙◌, append_assoc}
use Rattle.std.specs.Prelude.{Result}
use Rattle.std.proofs.lemmas.Bool.{false≢true}
use Rattle.atomic_table.specs.Seated.{TableId}
use Rattle.atomic_table.specs.Table.{Me}
use Rattle.fkv_base.specs.declared.commits.CommitKind.{CommitKind}
use Rattle.fkv_base.specs.declared.faults.Fault.{Fault}
use Rattle.fkv_base.specs.declared.numbers.Version.{Version}
use Rattle.fkv_disk.specs.Device.{AtEachMoment}
use Rattle.fkv_disk.specs.declared.devices.Device.{Ghosts}
use Rattle.fkv_keeper.specs.Keeping.{KeeperModel, keeper_ask}
use Rattle.fkv_keeper.specs.KeeperRun.{is_in_hand}
use Rattle.fkv_keeper.specs.Running.{IsBeginTold, IsTurnTold}
use Rattle.fkv_keeper.specs.declared.answers.Turn.{Turn}
use Rattle.fkv_seats.specs.Rule.{AreAllowed}
use Rattle.law_threads.specs.Below.fkv_table.Desks.{Slot, Knows}
use Rattle.law_threads.specs.Below.fkv_table.Happening.{Happening}
use Rattle.law_threads.specs.Below.fkv_table.Happening.TheVariants.{Calls, Commits, KeeperMoves, Moves, Turns}
use Rattle.law_threads.specs.Below.fkv_table.KeeperCalls.{BeginsNone, HasGoneOn, HasKept}
use Rattle.law_threads.specs.Below.fkv_table.Keeps.{IsAfterSeen, IsKeeperAtWork, IsKeeperReady, IsLeftWithin, LeavesDevice}
use Rattle.law_threads.specs.Below.fkv_table.Planes.{plane}
use Rattle.law_threads.specs.Below.fkv_table.TurnAsk.{TurnAsk}
use Rattle.law_threads.specs.Below.fkv_table.TurnAsk.TheVariants.{Device, Over}
use Rattle.law_threads.specs.Below.fkv_table.Turns.{IsCounted, IsTurnAsked, asks_device, told_by_device}
use Rattle.law_threads.specs.Images.{RecoversWithin}
use Rattle.law_threads.specs.Refusals.{IsInTurn, IsKeeperAt, OfEachRefusal, TellsWhyNoCommit, TellsWhyNoTurn}
use Rattle.law_threads.specs.Turns.{HasTurned, OfEachTurn, TellsItsFinish}
use Rattle.fkv_threads.specs.Models.{IsAtTable, Opening, StandsSo, Watch, opening, watch_of}
use Rattle.fkv_threads.specs.Pieces.{IfOver}
use Rattle.fkv_threads.specs.Watches.{HasAsked, HasBegunTurn, HasDriven, HasStepped, IsTurnOf, is_posted}
use Rattle.fkv_threads.proofs.Taken.{after_none}

-- ---- pieces of a call
none_of_both : (its before : List Happening) → BeginsNone its → BeginsNone before → BeginsNone (its ++ before)
none_of_both [] before none more = more
none_of_both (Calls session call ∷ its) before none more = none_of_both its before none more
none_of_both (Moves session ∷ its) before none more = none_of_both its before none more
none_of_both (Commits kind ∷ its) before none more = absurd none
none_of_both (Turns ∷ its) before none more = absurd none
none_of_both (KeeperMoves granted done ∷ its) before none more = none_of_both its before none more

kept_on : (start : Happening) (seen between after : List Happening) → HasKept start seen between → HasGoneOn between after → HasKept start seen after
kept_on start seen between after kept gone = record {
  steps = gone.steps ++ kept.steps;
  begins = none_of_both gone.steps kept.steps gone.begins kept.begins;
  others = kept.others;
  quiet = kept.quiet;
  so = gone.so ∙ (ap (λ (x : List Happening). gone.steps ++ x) kept.so ∙ sym (append_assoc gone.steps kept.steps (start ∷ (kept.others ++ seen))));
}

gone_on : (seen between after : List Happening) → HasGoneOn seen between → HasGoneOn between after → HasGoneOn seen after
gone_on seen between after first second = record {
  steps = second.steps ++ first.steps;
  begins = none_of_both second.steps first.steps second.begins first.begins;
  so = second.so ∙ (ap (λ (x : List Happening). second.steps ++ x) first.so ∙ sym (append_assoc second.steps first.steps seen));
}

module _ {D : Type 0} (device : Ghosts D) where
  -- the keeper is at its table under other names of that
  pub at_there : (key key' : Opening D) (table table' pass : TableId) (k : KeeperModel) (me : Me Slot (Knows (Opening D))) (medium : D) (in_turn : Bool) → key ≡ key' → table ≡ table' → IsAtTable device key table k pass me medium in_turn
      → IsAtTable device key' table' k pass me medium in_turn
  at_there key key' table table' pass k me medium in_turn same_key same_table its = subst (λ (z : Opening D × TableId). IsAtTable device z.0 z.1 k pass me medium in_turn) (λ i. (same_key i, same_table i)) its

  -- so it is of what it has done
  pub there : (P : Watch (Opening D) D → Watch (Opening D) D → Type 0) (key key' : Opening D) (table table' : TableId) (k k' : KeeperModel) (me me' : Me Slot (Knows (Opening D))) (medium medium' : D) (in_turn in_turn' : Bool) (w : Watch (Opening D) D)
      → key ≡ key' → table ≡ table' → watch_of key' table' k me medium in_turn ≡ w → P (watch_of key table k me medium in_turn) (watch_of key table k' me' medium' in_turn') → P w (watch_of key' table' k' me' medium' in_turn')
  there P key key' table table' k k' me me' medium medium' in_turn in_turn' w same_key same_table is its =
      subst (λ (z : Watch (Opening D) D). P z (watch_of key' table' k' me' medium' in_turn')) is
      (subst (λ (z : Opening D × TableId). P (watch_of z.0 z.1 k me medium in_turn) (watch_of z.0 z.1 k' me' medium' in_turn')) (λ i. (same_key i, same_table i)) its)

  module _ (key : Opening D) (table pass : TableId) where
    -- between two calls it is ready for the next one
    pub ready_of : (k : KeeperModel) (me : Me Slot (Knows (Opening D))) (medium : D) (in_turn : Bool) → in_turn ≡ false → IsAtTable device key table k pass me medium in_turn → IsKeeperReady (opening device) key table pass me k
    ready_of k me medium in_turn idle its = record { opened = its.work.opened; same_table = its.work.same_table; keeping = its.work.keeping; idle = its.so.idle idle }

    -- and who is ready is there
    pub at_rest : (k : KeeperModel) (me : Me Slot (Knows (Opening D))) (medium : D) (in_turn : Bool) → in_turn ≡ false → IsKeeperReady (opening device) key table pass me k → device.honest medium
        → IsAfterSeen (opening device) key me.0.seen (device.seen medium) (device.may_leave medium) → IsAtTable device key table k pass me medium in_turn
    at_rest k me medium in_turn idle ready honest after = record {
      work = record { opened = ready.opened; same_table = ready.same_table; keeping = ready.keeping };
      so = record { idle = λ _. ready.idle; asks = λ turns. absurd (false≢true (sym idle ∙ turns)) };
      honest = honest;
      after = after;
    }

    -- by the law it is there with what its pass has seen
    pub keeper_at : (k : KeeperModel) (me : Me Slot (Knows (Opening D))) → IsKeeperAtWork (opening device) key table pass me k → IsKeeperAt (opening device) key me.0.seen k
    keeper_at k me work = record { table = table; seat = pass; me = me; at_work = work; seen = refl }

    -- a turn has begun, and has gone on
    pub turn_from : (k : KeeperModel) (me : Me Slot (Knows (Opening D))) (medium : D) (in_turn : Bool) (begun seen : List Happening) → in_turn ≡ false → IsAtTable device key table k pass me medium in_turn → HasKept Turns me.0.seen begun → HasGoneOn begun seen
        → IsInTurn (opening device) key me.0.seen seen
    turn_from k me medium in_turn begun seen idle its kept gone = record { machine = k; was = keeper_at k me its.work; went = inl (its.so.idle idle, kept_on Turns me.0.seen begun seen kept gone) }

    -- one that was at a call of the device has gone on behind it
    pub turn_behind : (k : KeeperModel) (me : Me Slot (Knows (Opening D))) (medium : D) (in_turn : Bool) (called seen : List Happening) → in_turn ≡ true → IsAtTable device key table k pass me medium in_turn → HasGoneOn me.0.seen called → HasGoneOn called seen
        → IsInTurn (opening device) key me.0.seen seen
    turn_behind k me medium in_turn called seen turns its first second = record { machine = k; was = keeper_at k me its.work; went = inr (its.so.asks turns, gone_on me.0.seen called seen first second) }

    -- by what a piece tells
    stands_by : (next : TurnAsk) (k : KeeperModel) (in_turn : Bool) → in_turn ≡ is_posted next → IsTurnAsked k next → StandsSo in_turn k
    stands_by Device k in_turn is told = record { idle = λ idle. absurd (false≢true (sym idle ∙ is)); asks = λ _. told }
    stands_by (Over answer) k in_turn is told = record { idle = λ _. told.0; asks = λ turns. absurd (false≢true (sym is ∙ turns)) }

    -- a piece of a turn leaves it there
    pub at_work : (next : TurnAsk) (k : KeeperModel) (me : Me Slot (Knows (Opening D))) (medium : D) (in_turn : Bool) (before : List Happening) → in_turn ≡ is_posted next → IsKeeperAtWork (opening device) key table pass me k → IsTurnAsked k next
        → device.honest medium → LeavesDevice (opening device) key before me.0.seen → IsAfterSeen (opening device) key before (device.seen medium) (device.may_leave medium) → IsAtTable device key table k pass me medium in_turn
    at_work next k me medium in_turn before is work told honest leaves after = record {
      work = work;
      so = stands_by next k in_turn is told;
      honest = honest;
      after = after_none (opening device) key before me.0.seen (device.seen medium) (device.may_leave medium) leaves after;
    }

    ready_over : (k : KeeperModel) (me : Me Slot (Knows (Opening D))) (answer : Result Turn Fault) → IsKeeperAtWork (opening device) key table pass me k → IsTurnAsked k (Over answer) → IsKeeperReady (opening device) key table pass me k
    ready_over k me answer work told = record { opened = work.opened; same_table = work.same_table; keeping = work.keeping; idle = told.0 }

    -- the turn has been made, where it is over
    turned_over : (k : KeeperModel) (me : Me Slot (Knows (Opening D))) (answer : Result Turn Fault) → IsKeeperAtWork (opening device) key table pass me k → IsTurnAsked k (Over answer) → HasTurned (opening device) key me.0.seen answer
    turned_over k me answer work told = record { table = table; seat = pass; me = me; machine = k; ready = ready_over k me answer work told; seen = refl; told = told.1 }

    -- what it tells as finished is so
    pub finished_over : (next : TurnAsk) (k : KeeperModel) (me : Me Slot (Knows (Opening D))) → OfEachTurn (opening device) → IsKeeperAtWork (opening device) key table pass me k → IsTurnAsked k next
        → IfOver next (λ answer. TellsItsFinish (opening device) key me.0.seen answer)
    finished_over Device k me law work told = tt
    finished_over (Over answer) k me law work told = law key me.0.seen answer (turned_over k me answer work told)

    -- and its refusal has its cause
    pub refused_over : (from : List Happening) (next : TurnAsk) (k : KeeperModel) (me : Me Slot (Knows (Opening D))) → OfEachRefusal (opening device) → IsInTurn (opening device) key from me.0.seen → IsKeeperAtWork (opening device) key table pass me k
        → IsTurnAsked k next → IfOver next (λ answer. TellsWhyNoTurn (opening device) key me.0.seen answer)
    refused_over from Device k me law in_turn work told = tt
    refused_over from (Over answer) k me law in_turn work told = law.turns key from me.0.seen answer in_turn (turned_over k me answer work told)

    -- a commit was asked for
    pub commit_refused : (was : TableId) (k k' : KeeperModel) (me me' : Me Slot (Knows (Opening D))) (medium : D) (in_turn : Bool) (kind : CommitKind) (result : Result Version Fault) → OfEachRefusal (opening device) → in_turn ≡ false → IsAtTable device key table k was me medium in_turn
        → HasKept (Commits kind) me.0.seen me'.0.seen → IsKeeperReady (opening device) key table pass me' k' → IsBeginTold (keeper_ask k'.shape k'.places k'.state) result → TellsWhyNoCommit (opening device) key kind me'.0.seen result
    commit_refused was k k' me me' medium in_turn kind result law idle here kept ready told = law.commits key kind me.0.seen me'.0.seen result (record {
      machine = k;
      was = record { table = table; seat = was; me = me; at_work = here.work; seen = refl };
      idle = here.so.idle idle;
      kept = kept;
      after = k';
      now = record { table = table; seat = pass; me = me'; at_work = record { opened = ready.opened; same_table = ready.same_table; keeping = ready.keeping }; seen = refl };
      over = ready.idle;
      told = told;
    })

    -- a whole turn
    pub turn_of : (was : TableId) (k k' : KeeperModel) (me me' : Me Slot (Knows (Opening D))) (medium medium' : D) (in_turn : Bool) (answer : Result Turn Fault) → in_turn ≡ false → IsAtTable device key table k was me medium in_turn → IsKeeperReady (opening device) key table pass me' k' → device.honest medium'
        → IsAfterSeen (opening device) key me'.0.seen (device.seen medium') (device.may_leave medium') → HasKept Turns me.0.seen me'.0.seen
        → AtEachMoment device.moment device.left_since medium medium' (IsLeftWithin (opening device) key me.0.seen me'.0.seen)
        → IsTurnTold k'.state.last (keeper_ask k'.shape k'.places k'.state) answer
        → (count : ℕ) × IsCounted count (told_by_device answer) (device.failed medium) (device.failed medium') (device.refuses medium) (device.refuses medium')
        → RecoversWithin (opening device) key me.0.seen me'.0.seen → OfEachTurn (opening device) → OfEachRefusal (opening device)
        → IsTurnOf device (watch_of key table k me medium in_turn) answer (watch_of key table k' me' medium' in_turn)
    turn_of was k k' me me' medium medium' in_turn answer idle here ready honest after kept moments told counted recovers law refusals = record {
      same = record { key = refl; table = refl };
      watching = record { pass = pass; me = me'; its = at_rest k' me' medium' in_turn idle ready honest after; seen = refl };
      over = idle;
      kept = kept;
      moments = moments;
      recovered = recovers;
      told = told;
      counted = counted;
      finished = law key me'.0.seen answer its;
      refused = refusals.turns key me.0.seen me'.0.seen answer in_turn_then its;
    }
      where
        its : HasTurned (opening device) key me'.0.seen answer
        its = record { table = table; seat = pass; me = me'; machine = k'; ready = ready; seen = refl; told = told }

        in_turn_then : IsInTurn (opening device) key me.0.seen me'.0.seen
        in_turn_then = record { machine = k; was = record { table = table; seat = was; me = me; at_work = here.work; seen = refl }; went = inl (here.so.idle idle, kept) }
