-- What a crash of a life reports: the store that the life keeps.
use Rattle.std.specs.Prelude.{◌≡◌, ◌&&◌, ℕ, Bool, true, false, List, []}
use Rattle.fkv_base.specs.declared.faults.Fault.TheVariants.{Device}
use Rattle.fkv_base.specs.declared.numbers.Key.{Key}
use Rattle.fkv_base.specs.declared.numbers.Value.{Value}
use Rattle.fkv_map.specs.History.{content}
use Rattle.law_order.specs.Below.fkv_opening.TheOpened.{Opened}
use Rattle.fkv_runs.specs.Below.fkv_playing.Players.{PlayerState}
use Rattle.fkv_runs.specs.Crashes.{crash_text}
use Rattle.fkv_runs.specs.Openings.{Medium}
use Rattle.fkv_runs.specs.Runs.{IsCrashed, RunState}
use Rattle.fkv_runs.specs.declared.settings.Settings.{Settings}
use Rattle.fkv_texts.specs.Refusals.{last_refusal}
use Rattle.law_order.specs.Below.fkv_world.World.{Event, Now}
use Rattle.law_order.specs.Below.law_commit.BegunCommits.{BegunCommit}
use Rattle.law_order.specs.Below.law_opening.Log.Maps.{opening_map}
use Rattle.law_order.specs.Below.law_opening.Log.Records.{map_of}
use Rattle.law_order.specs.Below.law_opening.Lives.Reaching.{ReachesFar}
use Rattle.law_order.specs.Prefix.Law.{IsCurrent, IsKeptOf, kept_so_far, past_so_far}
use Rattle.law_order.specs.Tickets.Few.{HasFewCalls}
use Rattle.law_program.specs.PlayedCalls.EachLine.{IsLifeOver}
use Rattle.law_program.specs.PlayedCalls.Interleaved.{IsLifeShown}

-- The report of a crash is of a store that is what one current commit keeps of the life. It prints the pairs of the map with which the life began, behind a
-- replay of just the updates up to each session's point. The next life begins with this store, and with an image that reaches far.
pub record IsReportOfKept {D : Type 0} (seen : D → List ℕ) (may_leave : D → List ℕ → Type 0) (bytes : List ℕ) (o : Opened) (first : Now) (life : List Event) (image : List ℕ) (checks agrees : Bool) (after : PlayerState D) (text : List ℕ) : Type 0 where
  pub opened : Opened
  pub pairs : List (Key × Value)
  pub says : text ≡ crash_text checks opened pairs agrees
  pub commit : BegunCommit
  pub current : IsCurrent (past_so_far first bytes life) commit
  pub kept : IsKeptOf o first bytes life commit image opened
  pub shows : map_of pairs ≡ content (opening_map bytes o) (kept_so_far first bytes life opened.points.items)
  pub begins : IsLifeOver seen may_leave image opened after.world.now [] after
  pub reaches : ReachesFar image

-- A crash that a run takes, of a life that began with an image which reaches far, whatever calls are in hand. The run goes on behind such a report. Or its image is refused, but not for what
-- stands in it: the device has failed once more.
pub record TakesWhatIsKept {D : Type 0} (seen : D → List ℕ) (medium : Medium D) (settings : Settings) (bytes : List ℕ) (o : Opened) (first : Now) (life : List Event) (before after : RunState D) (over : Bool) (text : List ℕ) : Type 0 where
  pub report : over ≡ false
      → (agrees : Bool) × IsReportOfKept seen medium.may_leave bytes o first life (medium.image before.player.world.device settings.torn) settings.checks agrees after.player text × (after.agrees ≡ (before.agrees && agrees))
  pub refusal : over ≡ true → text ≡ last_refusal Device

-- so it is with each crash
abbrev pub CrashesTakeWhatIsKept : {D : Type 0} → (D → List ℕ) → Medium D → Type 0
CrashesTakeWhatIsKept {D} seen medium =
    (settings : Settings) (bytes : List ℕ) (o : Opened) (first : Now) (life : List Event) (before after : RunState D) (over : Bool) (text : List ℕ)
    → IsLifeShown seen medium.may_leave bytes o first life before.player → HasFewCalls life → ReachesFar bytes → IsCrashed medium settings before after over text
    → TakesWhatIsKept seen medium settings bytes o first life before after over text
