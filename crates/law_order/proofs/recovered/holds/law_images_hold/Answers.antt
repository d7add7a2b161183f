-- By the newest slot as it is read back.
use Rattle.std.proofs.Common.{◌∙◌, inl, inr, ap, arith, sym, subst, List}
use Rattle.fkv_base.specs.declared.numbers.Serial.{Serial}
use Rattle.law_commit.specs.Below.fkv_keeper.Keeping.{Finality}
use Rattle.law_commit.specs.Below.fkv_manifest.Newest.{slot_in}
use Rattle.fkv_map.specs.History.{point_of}
use Rattle.law_opening.specs.Below.fkv_newest.TheNewest.{Newest}
use Rattle.law_opening.specs.Below.fkv_opening.Faults.{HasCheckpoint}
use Rattle.fkv_record.specs.Manifest.{SlotSaid}
use Rattle.fkv_record.specs.Places.{open_number}
use Rattle.fkv_record.specs.declared.manifest_slots.ManifestSlot.{ManifestSlot}
use Rattle.law_commit.specs.BegunCommits.{BegunCommit}
use Rattle.law_order.specs.Images.Opened.{newest_in}
use Rattle.law_order.specs.Images.Read.{ReadsBack}
use Rattle.law_log.specs.Ghosts.{Log}
use Rattle.law_order.specs.Decided.Cut.{log_beside}
use Rattle.law_order.specs.OneHistory.EachLife.{IsLife, Life}
use Rattle.law_commit.specs.Below.law_paper.Paper.Named.{HoldsCommit}
use Rattle.law_order.specs.Recovered.Leaves.{homes_of}
use Rattle.law_order.proofs.OfRecovered.OfHolds.Opened.{shares_log}
use Rattle.law_order.proofs.recovered.holds.law_images_hold.Goals as goal

pub returns : goal.returns
returns c = λ o n bytes events image leaves.
    let store = leaves.store in
    let begins = leaves.begins in
    let log : Log = log_beside o n bytes events in
    let read : ReadsBack o n bytes events store image = c.law_images_read_back.ensures.slot o n bytes events image store begins leaves.far leaves.left in
    let far = c.law_images_read_back.ensures.far o n bytes events image store begins leaves.far leaves.left in
    let names = read.names in
    let named = names.named in
    let it : BegunCommit = named.commit in
    let life : Life = record { bytes = bytes; opened = o; world = n; events = events } in
    let is : IsLife life = record { store = store; begins = begins; fits = leaves.fits; few = leaves.few } in
    elim read.says [
      | inl says ↦
          let fits = says.fits in
          let newer = fits.newer in
          let number = ap (λ (s : SlotSaid). s.number) says.said in
          record {
            named = named;
            newest = read.newest;
            its = read.its;
            shape = read.shape;
            number = number;
            points = λ session. ap (λ (s : SlotSaid). point_of s.points session) says.said ∙ (c.law_points_keep.ensures.kept life it is named.begun).fits session;
            since = omega (arith, newer, number);
            holds = c.law_named_hold.ensures o n bytes events image leaves
                (record { commit = it; begun = named.begun; newest = read.newest; its = read.its; shape = read.shape; says = says; made = named.triples });
            far = far;
          }
      | inr old ↦
          let was : Newest = store.newest in
          let last = begins.its_keeper.newest in
          let number = ap (λ (s : ManifestSlot). s.number) old.slot ∙ sym store.tells.number in
          let opened = ap (λ (x : BegunCommit). x.number.0) old.is ∙ ap (λ (x : Finality). x.number.0) last in
          let kept : HasCheckpoint image (newest_in image store.newest) store.triples = subst (λ (x : Newest). HasCheckpoint image x store.triples) old.was
          (c.law_images_keep_checkpoint.ensures o n bytes events image leaves read (ap (λ (x : BegunCommit). x.parts.checkpoint) old.is)) in
          record {
            named = named;
            newest = read.newest;
            its = read.its;
            shape = read.shape;
            number = number ∙ sym opened;
            points = λ session.
                ap (λ (s : ManifestSlot). point_of s.points.serials.items session) old.slot
                ∙ (ap (λ (items : List Serial). point_of items session) (sym store.tells.points)
                ∙ sym (ap (λ (x : BegunCommit). point_of x.points session) old.is ∙ ap (λ (x : Finality). point_of x.points session) last));
            since = omega (arith, number);
            holds = subst (λ (x : Newest). HoldsCommit (homes_of n) image x log) (sym old.was)
                (c.law_kept_paper_is_sound.ensures (homes_of n) bytes image o store (open_number (slot_in image 512), open_number (slot_in image 1024)) log kept
                (shares_log bytes image o store kept (λ a some low. sym (c.law_images_keep_old.ensures o n bytes events image a store begins leaves.far leaves.left (omega (arith, some)) low))) (c.law_opened_log_stands.ensures o n bytes events image leaves));
            far = far;
          }
    ]
