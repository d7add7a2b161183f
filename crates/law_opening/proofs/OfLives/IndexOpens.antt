-- The world of an opened store is one whose index is in order, with the entries of the store.
use Rattle.std.proofs.Common.{◌∙◌, ap, sym, subst, arith, ℕ, ◌^◌, List, length}
use Rattle.fkv_base.specs.declared.shapes.Shape.{Shape}
use Rattle.fkv_plane.specs.Places.{bucket_place}
use Rattle.fkv_entries.specs.Room.{HaveRoom}
use Rattle.fkv_entries.specs.declared.home_entries.HomeEntry.{HomeEntry}
use Rattle.fkv_filling.specs.Filled.{IsFilled}
use Rattle.fkv_filling.specs.OpeningIndex.{HaveIndex, IsOpeningIndex, opening_lists}
use Rattle.fkv_filling.proofs.Shown.{filled_in_order}
use Rattle.law_paper.specs.Below.fkv_opening.TheOpened.{Opened}
use Rattle.law_refine.specs.Below.fkv_world.World.{Now}
use Rattle.fkv_core.specs.Openings.{IsOpeningWorld, beginning}
use Rattle.fkv_core.specs.OpeningWords.{AreWordsOfOpened}
use Rattle.fkv_core.proofs.Shown.{length-filled}
use Rattle.law_refine.specs.Index.Shows.{IsOpened}
use Rattle.law_opening.proofs.OfLives.GuardOpens.{enough, its_keeper_opens}
use Rattle.law_opening.proofs.OfLives.Words.{index_word, taken_word}

-- the words of the index stand at the places of the buckets
has_index : (o : Opened) (n : Now) (its : IsOpeningWorld o n) → HaveIndex n.places n.words its.its_words.index its.its_words.taken
has_index o n its =
    let are : AreWordsOfOpened o n.words = its.its_words in
    let store = its.its_places in
    let sessions = store.sessions in
    let buckets = store.buckets in
    let overflow = store.overflow in
    let long = length-filled o are.index are.taken are.filled in
    let many = enough o n its in
    record {
      enough = omega (arith, many);
      its_words = λ i low. index_word o n.words are (bucket_place n.places 0 i) i (omega (arith, sessions)) (omega (arith, low, long, buckets, overflow));
      count = taken_word o n.words are;
    }

pub index_of : (o : Opened) (n : Now) → IsOpeningWorld o n → IsOpeningIndex n.places o.entries.items n.words
index_of o n its =
    let are : AreWordsOfOpened o n.words = its.its_words in
    let store = its.its_places in
    let buckets = store.buckets in
    let overflow = store.overflow in
    let entries : List HomeEntry = o.entries.items in
    let room : HaveRoom n.places.buckets n.places.overflow entries =
    subst (λ (k : ℕ). HaveRoom k n.places.overflow entries) (sym buckets) (subst (λ (v : ℕ). HaveRoom (2 ^ o.shape.bucket_bits) v entries) (sym overflow) o.room) in
    let filled : IsFilled n.places.buckets n.places.overflow entries are.index are.taken =
    subst (λ (k : ℕ). IsFilled k n.places.overflow entries are.index are.taken) (sym buckets) (subst (λ (v : ℕ). IsFilled (2 ^ o.shape.bucket_bits) v entries are.index are.taken) (sym overflow) are.filled) in
    filled_in_order n.places entries are.index n.words are.taken room filled (has_index o n its)

pub index_opens : (o : Opened) (n : Now) (bytes : List ℕ) → IsOpeningWorld o n → IsOpened (beginning n bytes) (opening_lists o.entries.items)
index_opens o n bytes its =
    let store = its.its_places in
    record {
      its_index = (index_of o n its).in_order (length n.sessions);
      buckets = store.buckets ∙ ap (λ (shape : Shape). 2 ^ shape.bucket_bits) (sym its.its_shape);
      seats = its.seats ∙ sym store.sessions;
      sessions = λ number s got. (its.its_sessions number s got).opened;
      served = ap (λ (shape : Shape). shape.sessions) its.its_shape ∙ sym store.sessions;
      finished = its.its_keeper.its_sessions ∙ ap (λ (shape : Shape). shape.sessions) (sym its.its_shape);
      keeper = its_keeper_opens o n its;
    }
