-- A commit that uses the checkpoint with which the store was opened: recovery meets again what the opening's met.
use Rattle.std.proofs.Common.{◌≡◌, ℕ, ◌+◌, ◌<◌, ◌≤◌, ◌∙◌, arith, refl, sym, ap, subst, List}
use Rattle.fkv_base.specs.declared.numbers.Addr.{Addr}
use Rattle.fkv_base.specs.declared.shapes.Shape.{Shape}
use Rattle.fkv_disk.specs.Bytes.{bytes_at}
use Rattle.law_commit.specs.Below.fkv_keeper.Keeping.{Finality}
use Rattle.law_commit.specs.Below.fkv_keeper.LastCommits.{lost_written}
use Rattle.law_commit.specs.Below.fkv_keeper.Checkpoint.{Checkpoint}
use Rattle.law_opening.specs.Below.fkv_newest.TheNewest.{Newest}
use Rattle.law_opening.specs.Below.fkv_opening.Faults.{HasCheckpoint, log_of}
use Rattle.law_opening.specs.Below.fkv_opening.Opened.{IsStoreOf}
use Rattle.law_opening.specs.Below.fkv_opening.TheOpened.{Opened}
use Rattle.law_opening.specs.Below.fkv_pairs.Pairs.{log_of_store}
use Rattle.fkv_marks.specs.Window.{oldest as oldest_of}
use Rattle.fkv_marks.proofs.Shown.{oldest_most, oldest_some}
use Rattle.fkv_record.specs.Manifest.{SlotSaid}
use Rattle.fkv_record.specs.Places.{record_place}
use Rattle.fkv_record.specs.declared.lost_ranges.LostRange.{LostRange}
use Rattle.fkv_record.specs.declared.manifest_slots.ManifestSlot.{ManifestSlot}
use Rattle.law_commit.specs.Below.fkv_world.World.{Event, Now}
use Rattle.law_commit.specs.BegunCommits.{BegunCommit}
use Rattle.law_commit.specs.Versions.Cells.{CellsFrom, made_in}
use Rattle.law_order.specs.Decided.Cut.{log_beside}
use Rattle.law_commit.specs.Below.law_paper.Paper.Images.{IsRecent}
use Rattle.law_commit.specs.Below.law_paper.Paper.Old.{GoesOnFrom, HasWhatCounted, LosesTheRest, WasSound}
use Rattle.law_order.specs.Recovered.Leaves.{Leaves, NamesNew}
use Rattle.law_order.specs.Recovered.Parts.{UsesOld}

-- an image has the records below the opened end as they were
abbrev KeepsOld : Opened → List ℕ → List ℕ → Type 0
KeepsOld o bytes image = (a : ℕ) → 0 < a → a < o.tail.0 → bytes_at image (record_place o.shape a) 24 ≡ bytes_at bytes (record_place o.shape a) 24

was_sound : (bytes : List ℕ) (o : Opened) (store : IsStoreOf bytes o) → WasSound (log_of_store bytes o store)
was_sound bytes o store =
    let its = store.checkpoint in
    let suits = its.newest.manifest.suits in
    let stored = its.stored in
    record {
      scan = store.sound.scan;
      chains = store.sound.chains;
      apart = its.apart;
      below = λ i x e. (let one = stored.each i x e in one.in_log);
      some_start = (let some = suits.log.some in omega (arith, some));
      begins = suits.begin.before_scan;
      upwards = suits.log.upwards;
    }

module _ (o : Opened) (n : Now) (bytes : List ℕ) (events : List Event) (image : List ℕ) (leaves : Leaves o n bytes events image) (names : NamesNew o n bytes events image) (used : (let c = names.commit in c.parts.checkpoint ≡ n.keeper.last.checkpoint)) where
  abbrev store : IsStoreOf bytes o
  store = leaves.store

  abbrev c : BegunCommit
  c = names.commit

  abbrev newest : Newest
  newest = names.newest

  abbrev was : Newest
  was = (let its = leaves.store in its.newest)

  abbrev slot : ManifestSlot
  slot = (let found = names.newest in found.slot)

  abbrev old : ManifestSlot
  old = (let its = leaves.store in let found = its.newest in found.slot)

  shape_was : was.shape ≡ o.shape
  shape_was = sym store.tells.shape

  shape_is : o.shape ≡ newest.shape
  shape_is = sym (names.shape ∙ leaves.begins.its_shape)

  start : slot.first.0 ≡ old.first.0
  start =
      let says = names.says in
      ap (λ (x : SlotSaid). x.first.0) says.said
      ∙ (ap (λ (x : Checkpoint). x.first.0) used ∙ (ap (λ (f : Finality). f.checkpoint.first.0) leaves.begins.its_keeper.newest ∙ ap (λ (a : Addr). a.0) store.tells.first))

  -- a commit of this life that uses the opening's checkpoint has its begin
  begin : slot.begin.0 ≡ old.begin.0
  begin =
      let says = names.says in
      let fits = says.fits in
      ap (λ (x : SlotSaid). x.begin.0) says.said ∙ ap (λ (a : Addr). a.0) (fits.begins_as_opened used ∙ store.tells.begin)

  checkpoint : slot.checkpoint ≡ old.checkpoint
  checkpoint =
      let says = names.says in
      ap (λ (x : SlotSaid). x.checkpoint) says.said
      ∙ (ap (λ (x : Checkpoint). x.number.0) used ∙ (ap (λ (f : Finality). f.checkpoint.number.0) leaves.begins.its_keeper.newest ∙ store.tells.checkpoint))

  oldest : oldest_of newest.shape.class slot.checkpoint ≡ oldest_of was.shape.class old.checkpoint
  oldest = ap (λ (s : Shape). oldest_of s.class slot.checkpoint) (sym (shape_was ∙ shape_is)) ∙ ap (λ (k : ℕ). oldest_of was.shape.class k) checkpoint

  -- what this life has made is newer than the opening's commit, and so than its checkpoint
  recent : CellsFrom old.end.0 (old.number + 1) (log_beside o n bytes events) → IsRecent old.end.0 (log_of image newest store.triples) (log_beside o n bytes events)
  recent made =
      let same = oldest in
      let its = store.checkpoint in
      let no_newer = its.newest.manifest.suits.checkpoint.no_newer in
      let most : oldest_of was.shape.class old.checkpoint ≤ old.number + 1 = oldest_most was.shape.class old.checkpoint (old.number + 1) (omega arith) (omega (arith, no_newer)) in
      record {
        some = oldest_some newest.shape.class slot.checkpoint;
        in_window = (let found = names.its in found.manifest.suits.checkpoint.in_window);
        published = λ a cell is above. (let least = made a cell.version above (ap made_in is) in omega (arith, same, most, least));
        dropped = λ a cell is above. (let least = made a cell.version above (ap made_in is) in omega (arith, same, most, least));
      }

  same_record : KeepsOld o bytes image → (a : ℕ) → 0 < a → a < old.end.0 → bytes_at bytes (record_place was.shape a) 24 ≡ bytes_at image (record_place newest.shape a) 24
  same_record keeps a some low =
      let tail : o.tail.0 ≡ old.end.0 = ap (λ (x : Addr). x.0) store.tells.tail in
      ap (λ (s : Shape). bytes_at bytes (record_place s a) 24) shape_was
      ∙ (sym (keeps a some (omega (arith, tail, low))) ∙ ap (λ (s : Shape). bytes_at image (record_place s a) 24) shape_is)

  goes_on : KeepsOld o bytes image → GoesOnFrom (log_of_store bytes o store) (log_of image newest store.triples)
  goes_on keeps =
      let says = names.says in
      let fits = says.fits in
      let tail : o.tail.0 ≡ old.end.0 = ap (λ (x : Addr). x.0) store.tells.tail in
      let end : slot.end.0 ≡ c.parts.end.0 = ap (λ (x : SlotSaid). x.end.0) says.said in
      let number : slot.number ≡ c.number.0 = ap (λ (x : SlotSaid). x.number) says.said in
      let then = store.tells.number in
      let later = fits.later in
      let newer = fits.newer in
      let its = store.checkpoint in
      let first = its.newest.manifest.suits.begin.some in
      record {
        begin = begin;
        start = start;
        oldest = oldest;
        bits = ap (λ (s : Shape). s.bucket_bits) (sym (shape_was ∙ shape_is));
        triples = refl;
        longer = omega (arith, tail, end, later);
        newer = omega (arith, number, then, newer);
        bytes = λ a x some low. (let same = same_record keeps a (omega (arith, first, some)) low in (λ stands. stands ∙ same, λ stands. stands ∙ sym same));
      }

  pub uses_old : KeepsOld o bytes image → HasCheckpoint image newest store.triples → HasWhatCounted (log_of_store bytes o store) (log_beside o n bytes events)
      → CellsFrom old.end.0 (old.number + 1) (log_beside o n bytes events) → LosesTheRest (lost_written c.parts.lost) (log_of_store bytes o store) (log_beside o n bytes events) → UsesOld o n bytes events image leaves names
  uses_old keeps found before made loses =
      let says = names.says in
      let lost : slot.lost.ranges.items ≡ lost_written c.parts.lost = ap (λ (x : SlotSaid). x.lost) says.said in
      record {
        checkpoint = found;
        recent = recent made;
        goes_on = goes_on keeps;
        opened = was_sound bytes o store;
        before = before;
        loses = subst (λ (x : List LostRange). LosesTheRest x (log_of_store bytes o store) (log_beside o n bytes events)) (sym lost) loses;
      }
