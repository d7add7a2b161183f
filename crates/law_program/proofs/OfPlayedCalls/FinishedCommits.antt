-- By a call of the keeper just the commit finishes that it tells as finished.
use Rattle.std.proofs.Common.{◌≡◌, ◌∙◌, ℕ, List, [], ◌∷◌, Bool, true, false, ap, refl, sym}
use Rattle.std.specs.Prelude.{Option, Some, Ok}
use Rattle.fkv_base.specs.declared.numbers.Serial.{Serial}
use Rattle.fkv_base.specs.declared.numbers.Version.{Version}
use Rattle.law_order.specs.Below.fkv_core.Lives.{IsAnswerSaid, answers_of, with_answer}
use Rattle.law_order.specs.Below.fkv_core.Openings.{beginning, newest_commit}
use Rattle.law_order.specs.Below.fkv_core.Told.{keeper_told}
use Rattle.law_order.specs.Below.fkv_core.TheTold as tells
use Rattle.law_order.specs.Below.fkv_core.TheTold.TheVariants as told
use Rattle.fkv_epoch.proofs.Shown.{some_same}
use Rattle.law_order.specs.Below.fkv_keeper.Answers.{AreFinishesTold, IsKeeperTold}
use Rattle.law_order.specs.Below.fkv_keeper.Keeping.{Finality, end_told}
use Rattle.law_order.specs.Below.fkv_keeper.Finished.{Finished}
use Rattle.law_order.specs.Below.fkv_keeper.KeeperAsk.{KeeperAsk}
use Rattle.law_order.specs.Below.fkv_keeper.KeeperTold.{KeeperTold}
use Rattle.law_order.specs.Below.fkv_keeper.KeeperTold.TheVariants.{Begun, CommitRefused, Device, TurnRefused, Turned}
use Rattle.law_order.specs.Below.fkv_opening.TheOpened.{Opened}
use Rattle.law_order.specs.Below.fkv_world.Past.{Answered, KeeperAnswered, TraceEvent, Traced}
use Rattle.law_order.specs.Below.fkv_world.World.{Event, Now}
use Rattle.law_order.specs.Below.law_commit.FinishedCommits.{ToldCommit, commits_told, told_of, with_told}
use Rattle.law_order.specs.OneHistory.EachLife.{InEachLife, IsLife}
use Rattle.law_order.specs.Prefix.Law.{TellsFinished, trace_so_far}
use Rattle.law_program.specs.PlayedCalls.FinishedCommits.{FinishesWhatIsTold, finished_so_far, with_commit, with_finished}
use Rattle.law_program.proofs.OfPlayedCalls.Led.{IsOneAnswer}

-- ---- commits are told by answers alone
told_in : List TraceEvent → List ToldCommit → List ToldCommit
told_in [] first = first
told_in (it ∷ before) first = with_told it (told_in before first)

told_with : (event : TraceEvent) (answers : List TraceEvent) (first : List ToldCommit) → with_told event (told_in answers first) ≡ told_in (with_answer event answers) first
unfolding told_in
told_with (Answered number its) answers first = refl
told_with (KeeperAnswered its last) answers first = refl
told_with event answers first = refl

by_answers : (trace : List Traced) (first : List ToldCommit) → commits_told trace first ≡ told_in (answers_of trace) first
unfolding told_in
by_answers [] first = refl
by_answers (it ∷ before) first = ap (with_told it.its) (by_answers before first) ∙ told_with it.its (answers_of before) first

one_more : (answer : TraceEvent) (answers : List TraceEvent) (first : List ToldCommit) → told_in (answer ∷ answers) first ≡ with_told answer (told_in answers first)
unfolding told_in
one_more answer answers first = refl

-- ---- what an answer finishes is what is told
finish_told : (last : Finality) (finished : Bool) (full : Bool) (its : Option Finished) (before : List ToldCommit) → AreFinishesTold last finished its → with_told (KeeperAnswered (Turned finished full) last) before ≡ with_commit its before
finish_told last false full its before none = sym (ap (λ (x : Option Finished). with_commit x before) none)
finish_told last true full its before so =
    let same : told_of last ≡ record { number = so.0.number; points = so.0.points.items }
    = ap (λ (x : Version). record { number = x; points = last.points }) (sym so.2.0) ∙ ap (λ (x : List Serial). record { number = so.0.number; points = x }) (sym so.2.1) in
    ap (λ (x : ToldCommit). x ∷ before) same ∙ sym (ap (λ (x : Option Finished). with_commit x before) so.1)

turned : (last : Finality) (finished full : Bool) (given : KeeperAsk) (said : tells.Told) (before : List ToldCommit) → IsKeeperTold last (Turned finished full) given → Some said ≡ keeper_told given
    → with_told (KeeperAnswered (Turned finished full) last) before ≡ with_finished said before
turned last finished full given said before so e =
    let is : said ≡ told.Turn (Ok so.0) = some_same _ _ (e ∙ ap keeper_told so.1) in
    finish_told last finished full so.0.finished before so.3 ∙ sym (ap (λ (x : tells.Told). with_finished x before) is)

by_keeper : (k : KeeperTold) (full : Bool) (last : Finality) (given : KeeperAsk) (said : tells.Told) (before : List ToldCommit) → IsKeeperTold last (end_told k (Turned false full)) given → Some said ≡ keeper_told given
    → with_told (KeeperAnswered k last) before ≡ with_finished said before
by_keeper Device full last given said before so e = turned last false full given said before so e
by_keeper (Turned finished drained) full last given said before so e = turned last finished drained given said before so e
by_keeper (TurnRefused why) full last given said before so e = sym (ap (λ (x : tells.Told). with_finished x before) (some_same _ _ (e ∙ ap keeper_told so)))
by_keeper (Begun number) full last given said before so e = sym (ap (λ (x : tells.Told). with_finished x before) (some_same _ _ (e ∙ ap keeper_told so)))
by_keeper (CommitRefused why) full last given said before so e = sym (ap (λ (x : tells.Told). with_finished x before) (some_same _ _ (e ∙ ap keeper_told so)))

by_answer : (answer : TraceEvent) (said : tells.Told) (before : List ToldCommit) → IsAnswerSaid answer (Some said) → with_told answer before ≡ with_finished said before
by_answer (Answered number its) said before so = sym (ap (λ (x : tells.Told). with_finished x before) (some_same _ _ so.1))
by_answer (KeeperAnswered k last) said before so = by_keeper k so.0 last so.1 said before so.2 so.3
by_answer answer said before so = absurd so

-- ---- in a life
module _ (tells_finished : InEachLife TellsFinished) (bytes : List ℕ) (o : Opened) (first : Now) (life later : List Event)
    (was_life : IsLife (record { bytes = bytes; opened = o; world = first; events = life })) (is_life : IsLife (record { bytes = bytes; opened = o; world = first; events = later })) where
  pub finishes_what_is_told : (said : tells.Told) → IsOneAnswer (beginning first bytes) life later said → FinishesWhatIsTold bytes first life later said
  finishes_what_is_told said one =
      let opening : List ToldCommit = told_of (newest_commit o) ∷ [] in
      let answers : List TraceEvent = answers_of (trace_so_far first bytes life) in
      let before : told_in answers opening ≡ finished_so_far bytes first life
      = sym (by_answers (trace_so_far first bytes life) opening) ∙ sym (tells_finished (record { bytes = bytes; opened = o; world = first; events = life }) was_life) in
      tells_finished (record { bytes = bytes; opened = o; world = first; events = later }) is_life
      ∙ (by_answers (trace_so_far first bytes later) opening
      ∙ (ap (λ (x : List TraceEvent). told_in x opening) one.all
      ∙ (one_more one.answer answers opening ∙ (by_answer one.answer said (told_in answers opening) one.is_said ∙ ap (with_finished said) before))))
