-- The report of a crash, by the law of prefixes.
use Rattle.std.proofs.Common.{◌≡◌, ◌∙◌, refl, subst, ℕ, Bool, List}
use Rattle.fkv_base.specs.declared.faults.Fault.{Fault}
use Rattle.fkv_base.specs.declared.faults.Fault.TheVariants as fault
use Rattle.law_order.specs.Below.fkv_core.Openings.{beginning}
use Rattle.fkv_disk.specs.Calls.{MayLeave}
use Rattle.law_order.specs.Below.fkv_opening.Faults.{IsFaultOf}
use Rattle.law_order.specs.Below.fkv_opening.TheOpened.{Opened}
use Rattle.fkv_runs.specs.Below.fkv_playing.Players.{PlayerState}
use Rattle.fkv_runs.specs.Crashes.{IsCause, IsCrash, kept_behind}
use Rattle.fkv_runs.specs.Openings.{Medium}
use Rattle.fkv_texts.specs.Refusals.{last_refusal}
use Rattle.law_order.specs.Below.fkv_world.Runs.{World, run}
use Rattle.law_order.specs.Below.fkv_world.World.{Event, Now}
use Rattle.law_order.specs.OneHistory.EachLife.{InEachLife, IsLife, Life}
use Rattle.law_order.specs.Below.law_opening.Lives.Reaching.{ReachesFar}
use Rattle.law_order.specs.Prefix.Law.{HoldsPrefix, RecoversPrefix, calls_so_far}
use Rattle.law_order.proofs.OfPrefix.Forgotten.{as_left}
use Rattle.law_program.specs.PlayedCalls.CrashReports.{CrashesTakeWhatIsKept, IsReportOfKept}
use Rattle.law_order.specs.Tickets.Few.{HasFewCalls}
use Rattle.law_program.specs.PlayedCalls.Interleaved.{IsLifeShown}
use Rattle.law_program.specs.PlayedCalls.Lives.{LivesBegin}
use Rattle.law_program.proofs.OfPlayedCalls.NewStores.{PairsAreMap}

-- of all causes only the device's is left
pub only_device : (image : List ℕ) (text : List ℕ) (why : Fault) → ((x : Fault) → IsFaultOf image x → ⊥) → (why ≡ fault.Memory → ⊥) → IsCause image why → text ≡ last_refusal why → text ≡ last_refusal fault.Device
only_device image text fault.Memory none not_memory cause says = absurd (not_memory refl)
only_device image text fault.Device none not_memory cause says = says
only_device image text other none not_memory cause says = absurd (none other cause)

module _ {D : Type 0} (recovers : InEachLife RecoversPrefix) (opened : (opening : World) (events : List Event) → (run opening events).past.opened ≡ opening.past.opened) (seen : D → List ℕ) (medium : Medium D) where
  -- what a crash leaves of the device it leaves of the life, so it holds a prefix of that
  holds_prefix : (bytes : List ℕ) (o : Opened) (first : Now) (life : List Event) (image : List ℕ) (player : PlayerState D) → IsLifeShown seen medium.may_leave bytes o first life player → HasFewCalls life → ReachesFar bytes
      → medium.may_leave player.world.device image → HoldsPrefix o first bytes life image
  holds_prefix bytes o first life image player shown few far left =
      let device = shown.device in
      let its : Life = record { bytes = bytes; opened = o; world = first; events = life } in
      let is : IsLife its = record { store = shown.store; begins = shown.opening; fits = shown.fits; few = few } in
      recovers its is far image (as_left bytes (calls_so_far first bytes life) image (subst (λ (x : List ℕ). MayLeave x (calls_so_far first bytes life) image) (opened (beginning first bytes) life) (device.leaves image left)))

  module _ (begin : LivesBegin seen medium.may_leave medium.holds) (pairs : PairsAreMap) where
    report_kept : (bytes : List ℕ) (o : Opened) (first : Now) (life : List Event) (image : List ℕ) (checks agrees : Bool) (before after : PlayerState D) (text : List ℕ) → HoldsPrefix o first bytes life image
        → IsCrash medium.holds image checks before after agrees text → IsReportOfKept seen medium.may_leave bytes o first life image checks agrees after text
    report_kept bytes o first life image checks agrees before after text prefix crash =
        let store = crash.recovered.store in
        let kept = prefix.each crash.opened store in
        record {
          opened = crash.opened;
          pairs = crash.pairs;
          says = crash.says;
          commit = prefix.commit;
          current = prefix.current;
          kept = kept;
          shows = pairs image crash.opened store crash.pairs crash.recovered.are_pairs ∙ kept.pairs;
          begins = begin image crash.opened crash.device (kept_behind checks before.history crash.opened) checks after store crash.reads crash.begins;
          reaches = prefix.reaches;
        }

    pub crashes_take_kept : CrashesTakeWhatIsKept seen medium
    crashes_take_kept settings bytes o first life before after over text shown few far crashed =
        let image : List ℕ = medium.image before.player.world.device settings.torn in
        let prefix : HoldsPrefix o first bytes life image = holds_prefix bytes o first life image before.player shown few far crashed.left in
        record {
          report = λ on. let its = crashed.crash on in (its.0, report_kept bytes o first life image settings.checks its.0 before.player after.player text prefix its.1, its.2);
          refusal = λ off. let its = crashed.refusal off in only_device image text its.0 prefix.faultless its.1 its.2 its.3;
        }
