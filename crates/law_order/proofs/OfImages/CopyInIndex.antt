-- An entry that was copied is of a bucket of the index, as it stood there.
use Rattle.std.proofs.Common.{◌≡◌, ℕ, ◌<◌, ◌^◌, ◌∙◌, ap, subst, List}
use Rattle.law_commit.specs.Below.fkv_checkpoint.Triples.{CopiedEntry}
use Rattle.fkv_plane.specs.declared.places.Places.{Places}
use Rattle.law_commit.specs.Below.fkv_world.Runs.{World}
use Rattle.law_commit.specs.Below.fkv_world.World.{Event}
use Rattle.law_commit.proofs.Below.fkv_world.Shown.{places_stay}
use Rattle.law_commit.specs.Copied.Covers.{HasStoodSince}
use Rattle.law_commit.specs.Below.law_refine.Index.Shows.{IsOpened, seen_by_index}
use Rattle.law_commit.proofs.Below.law_refine.OfIndex.Permitted.{are_permitted}
use Rattle.law_commit.proofs.Below.law_refine.OfIndex.Worlds.{life_shows}

pub stood_in_index : (opening : World) (lists : ℕ → List ℕ) (events : List Event) → IsOpened opening lists → (e : CopiedEntry) → HasStoodSince opening lists events e → e.home.bucket < 2 ^ opening.now.shape.bucket_bits
stood_in_index opening lists events opened e its =
    let shows = life_shows opening lists its.moment opened (are_permitted opening lists its.moment opened) in
    let stood = its.stood in
    let places = shows.places ∙ places_stay opening its.moment in
    let buckets : (let w = seen_by_index opening lists its.moment in w.now.places.buckets) ≡ 2 ^ opening.now.shape.bucket_bits = ap (λ (p : Places). p.buckets) places ∙ opened.buckets in
    subst (λ (most : ℕ). e.home.bucket < most) buckets stood.its_home.few
