-- The words before the frames have room.
use Rattle.std.proofs.Common.{◌≡◌, ◌∙◌, ap, arith, subst, ◌+◌, ◌*◌, ◌^◌, List, length}
use Rattle.std.proofs.lemmas.List.{length-replicate}
use Rattle.fkv_entries.specs.declared.home_entries.HomeEntry.{HomeEntry}
use Rattle.fkv_filling.specs.Filled.{IsFilled}
use Rattle.fkv_keeper.specs.NewKeepers.{ArePlacesOfStore}
use Rattle.fkv_plane.specs.Places.{word_count}
use Rattle.fkv_plane.specs.Plane.{Plane}
use Rattle.fkv_plane.specs.declared.places.Places.{Places}
use Rattle.fkv_opening.specs.declared.opened_store.Opened.{Opened}
use Rattle.fkv_core.proofs.Lengths.{words_fit}
use Rattle.fkv_core.proofs.opening_words.opening_plane.Goals as goal

pub write_words-requires : goal.write_words-requires
write_words-requires c =
    let o : Opened = c.args.opened.now in
    let p : Places = c.of-places.result in
    let its = c.of-places.ensures in
    let store : ArePlacesOfStore o.shape p = record { sessions = its.sessions; buckets = its.buckets; overflow = its.overflow; ring = its.ring } in
    let filled : IsFilled (2 ^ o.shape.bucket_bits) o.shape.overflow o.entries.items c.in_ok-index.index.words.items c.in_ok-index.index.taken =
    subst (λ (entries : List HomeEntry). IsFilled (2 ^ o.shape.bucket_bits) o.shape.overflow entries c.in_ok-index.index.words.items c.in_ok-index.index.taken) c.deref.ensures.value c.in_ok-index.ensures.ok in
    let fit : length c.in_ok-words.words.items + 3 * (o.shape.frames * o.shape.page) ≡ word_count p =
    words_fit o p c.in_ok-index.index.words.items c.in_ok-words.words.items c.in_ok-index.index.taken store filled c.in_ok-words.ensures.ok in
    let front : length c.deref-2.result.now ≡ length c.in_ok-words.words.items = ap length c.deref-2.ensures.value in
    let room : length c.in_ok-plane.plane.words ≡ c.word_count.result = ap (λ (it : Plane). length it.words) c.in_ok-plane.ensures.made ∙ length-replicate c.word_count.result 0 in
    let count : c.word_count.result ≡ word_count p = c.word_count.ensures in
    omega (arith, fit, front, room, count)
