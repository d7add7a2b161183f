-- A commit that uses a checkpoint of its life: the triples are those of a full commit, which has made it.
use Rattle.std.proofs.Common.{◌≡◌, inl, inr, ℕ, ◌^◌, ◌<◌, ◌≤◌, ◌∙◌, arith, refl, sym, ap, subst, List}
use Rattle.fkv_base.specs.declared.numbers.Addr.{Addr}
use Rattle.fkv_base.specs.declared.numbers.Version.{Version}
use Rattle.fkv_base.specs.declared.shapes.Shape.{Shape}
use Rattle.law_opening.specs.Below.fkv_core.Openings.{IsOpeningWorld}
use Rattle.law_commit.specs.Below.fkv_keeper.Keeping.{Finality}
use Rattle.law_commit.specs.Below.fkv_keeper.Checkpoint.{Checkpoint}
use Rattle.law_opening.specs.Below.fkv_newest.TheNewest.{Newest}
use Rattle.law_opening.specs.Below.fkv_opening.Faults.{HasCheckpoint, log_of}
use Rattle.law_opening.specs.Below.fkv_opening.TheOpened.{Opened}
use Rattle.fkv_marks.proofs.Shown.{oldest_most, oldest_some}
use Rattle.fkv_record.specs.Manifest.{SlotSaid}
use Rattle.fkv_record.specs.declared.manifest_slots.ManifestSlot.{ManifestSlot}
use Rattle.fkv_record.specs.declared.triples.Triple.{Triple}
use Rattle.law_commit.specs.Below.fkv_world.World.{Event, Now}
use Rattle.law_commit.specs.BegunCommits.{AreInTurn, BegunCommit}
use Rattle.law_commit.specs.Decided.Ended.{Span}
use Rattle.law_order.specs.Images.Fits.{NamesNone}
use Rattle.law_order.specs.Images.Laws.Held.{TriplesAreReadBack}
use Rattle.law_order.specs.Images.Left.{flushed_so_far}
use Rattle.law_order.specs.Images.Named.{IsMadeBy, begun_so_far}
use Rattle.law_log.specs.Trace.{IsIn}
use Rattle.law_order.specs.Decided.Cut.{CoversItsChains, IsOldBelow, IsOpenings, IsRecentFromFirst, StartsAt, WritesCover, log_beside}
use Rattle.law_commit.specs.Below.law_paper.Paper.Images.{IsRecent}
use Rattle.law_commit.specs.Versions.Cells.{CellsFrom, made_in}
use Rattle.law_order.specs.Recovered.Leaves.{NamesNew}
use Rattle.law_order.specs.Recovered.Parts.{UsesNew}
use Rattle.law_order.proofs.OfImages.Areas.{area_read, said_area}
use Rattle.law_order.proofs.OfRecovered.OfUses.Numbers.{ends_by}
use Rattle.law_commit.specs.Below.law_world.Standing.Standing.{triples_in}

-- a newer commit ends no lower
abbrev pub EndRises : List BegunCommit → Type 0
EndRises begun = (older newer : BegunCommit) → IsIn older begun → IsIn newer begun → older.number.0 < newer.number.0 → older.parts.end.0 ≤ newer.parts.end.0

module _ (o : Opened) (n : Now) (bytes : List ℕ) (events : List Event) (image : List ℕ) (names : NamesNew o n bytes events image) (begins : IsOpeningWorld o n) (none : NamesNone o names.commit)
    (d : BegunCommit) (is : IsIn d (begun_so_far n bytes events)) (made : (let c = names.commit in IsMadeBy d c.parts.checkpoint (triples_in n.shape image c.parts.checkpoint))) where
  abbrev c : BegunCommit
  c = names.commit

  abbrev newest : Newest
  newest = names.newest

  abbrev slot : ManifestSlot
  slot = (let found = names.newest in found.slot)

  number : d.number.0 ≡ c.parts.checkpoint.number.0
  number = sym (ap (λ (v : Version). v.0) made.own) ∙ ap (λ (x : Checkpoint). x.number.0) made.checkpoint

  not_opened : IsOpenings n bytes d → ⊥
  not_opened first =
      let same : d.number.0 ≡ n.keeper.last.number.0 = ap (λ (x : Span). x.number.0) first in
      let was : n.keeper.last.number.0 ≡ o.number.0 = ap (λ (f : Finality). f.number.0) begins.its_keeper.newest in
      let its = number in
      let newer = none.newer in
      omega (arith, same, was, its, newer)

  not_newer : d.number.0 ≤ c.number.0
  not_newer =
      let says = names.says in
      let fits = says.fits in
      let most = fits.no_newer in
      let its = number in
      omega (arith, most, its)

  module _ (turn : AreInTurn (begun_so_far n bytes events)) (rises : EndRises (begun_so_far n bytes events)) where
    end_below : d.parts.end.0 ≤ slot.end.0
    end_below =
        let says = names.says in
        let end : slot.end.0 ≡ c.parts.end.0 = ap (λ (x : SlotSaid). x.end.0) says.said in
        let low = ends_by (begun_so_far n bytes events) c d turn rises names.begun is not_newer in
        omega (arith, end, low)

    starts : (triples : List Triple) → StartsAt (log_of image newest triples) d
    starts triples =
        let says = names.says in
        let said : slot.number ≡ c.number.0 = ap (λ (x : SlotSaid). x.number) says.said in
        let most = not_newer in
        record {
          start = ap (λ (x : SlotSaid). x.first.0) says.said ∙ (sym (ap (λ (x : Checkpoint). x.first.0) made.checkpoint) ∙ ap (λ (a : Addr). a.0) made.first);
          version = omega (arith, said, most);
          tail = end_below;
        }

    -- its own version is the oldest that recovery takes behind it
    recent_so : (triples : List Triple) → CellsFrom d.parts.first.0 d.number.0 (log_beside o n bytes events) → IsRecent slot.first.0 (log_of image newest triples) (log_beside o n bytes events)
    recent_so triples from =
        let says = names.says in
        let checkpoint : slot.checkpoint ≡ c.parts.checkpoint.number.0 = ap (λ (x : SlotSaid). x.checkpoint) says.said in
        let start = (let at = starts triples in at.start) in
        let its = number in
        let newer = none.newer in
        let upto : (version : ℕ) → d.number.0 ≤ version → (let log = log_of image newest triples in log.oldest ≤ version) = λ version least.
        oldest_most newest.shape.class slot.checkpoint version (omega (arith, least, its, newer)) (omega (arith, least, its, checkpoint)) in
        record {
          some = oldest_some newest.shape.class slot.checkpoint;
          in_window = (let found = names.its in found.manifest.suits.checkpoint.in_window);
          published = λ a cell is above. upto cell.version (from a cell.version (omega (arith, above, start)) (ap made_in is));
          dropped = λ a cell is above. upto cell.version (from a cell.version (omega (arith, above, start)) (ap made_in is));
        }

    module _ (cover : WritesCover o n bytes events d) (read : TriplesAreReadBack) where
      stored : HasCheckpoint image newest cover.triples
      stored =
          let end = end_below in
          read image newest cover.triples names.its (cover.spelled ∙ (made.triples ∙ sym (area_read n c newest image (said_area o n (flushed_so_far n bytes events) c newest names.says) names.shape))) (record {
            in_index = λ i x e. subst (λ (s : Shape). x.bucket < 2 ^ s.bucket_bits) (sym names.shape) (cover.in_index i x e);
            in_log = λ i x e. (let low = cover.below i x e in omega (arith, low, end));
            apart = cover.apart;
          })

      pub uses_new : IsOldBelow o n bytes events d → IsRecentFromFirst o n bytes events d → UsesNew o n bytes events image names
      uses_new old recent = record {
        newer = none.newer;
        triples = cover.triples;
        checkpoint = stored;
        covers = cover.covers (log_of image newest cover.triples) refl (starts cover.triples);
        recent = elim recent [
          | inl from ↦ recent_so cover.triples from
          | inr first ↦ absurd (not_opened first)
        ];
        old_below = λ a cell published low. elim old [
          | inl before ↦ before (log_of image newest cover.triples) a cell (starts cover.triples) published low
          | inr first ↦ absurd (not_opened first)
        ];
      }

    pub by_cover : CoversItsChains o n bytes events d → IsOldBelow o n bytes events d → IsRecentFromFirst o n bytes events d → TriplesAreReadBack → UsesNew o n bytes events image names
    by_cover covers old recent read = elim (covers made.full) [
      | inl cover ↦ uses_new cover read old recent
      | inr first ↦ absurd (not_opened first)
    ]
