-- An ask that spares the index leaves it as it is, whatever its words are: a change of a word elsewhere does, one that leaves its word as it
-- is, and one above a link.
use Rattle.std.proofs.Common.{◌≡◌, ℕ, ◌+◌, ◌-◌, ◌%◌, ◌^◌, ◌∙◌, refl, sym, ap, arith, inl, inr, List, Bool, true, false}
use Rattle.std.specs.Prelude.{◌==◌, if◌then◌else◌}
use Rattle.std.proofs.lemmas.Bool.Decides.{nat_tests}
use Rattle.fkv_plane.specs.declared.asks.Ask.{Ask}
use Rattle.fkv_plane.specs.declared.asks.Ask.TheVariants.{Load, Store, Swap, Cas, Add, Max, Put, Take, Done}
use Rattle.fkv_plane.specs.declared.places.Places.{Places}
use Rattle.fkv_plane.specs.Asked.{word_at}
use Rattle.fkv_plane.specs.Places.{bucket_place}
use Rattle.fkv_index.specs.IndexWorld.{is_bucket_place, is_link_place}
use Rattle.fkv_index.specs.Slots.{link_of}
use Rattle.law_refine.specs.Footprint.{TheIndex, IsElsewhere, Spares}
use Rattle.law_refine.specs.Index.Shows.{KeepsWord, SparesIndex}

no_place : {X : Type 0} (b : Bool) → b ≡ false → b ≡ true → X
no_place b none there = let clash : true ≡ false = sym there ∙ none in cc

elsewhere_keeps : (p : Places) (place before after : ℕ) → IsElsewhere p place → KeepsWord p place before after
elsewhere_keeps p place before after else_where = record {
  count = λ e. absurd (else_where.no_count e);
  slots = λ there link. no_place (is_bucket_place p place) else_where.no_bucket there;
  links = λ there link. no_place (is_bucket_place p place) else_where.no_bucket there;
}

-- as a load does at any place
same_keeps : (p : Places) (place word : ℕ) → KeepsWord p place word word
same_keeps p place word = record { count = λ e. refl; slots = λ there link. refl; links = λ there link. refl }

-- a word with a latch is an eighth word of a bucket
latch_keeps : (p : Places) (place bucket before after : ℕ) → place ≡ bucket_place p bucket 7 → link_of after ≡ link_of before → KeepsWord p place before after
latch_keeps p place bucket before after at same =
    let within : (place - bucket_place p 0 0) % 8 ≡ 7 = omega (arith, at) in
    let link : is_link_place p place ≡ true = grind (arith, nat_tests, within) in
    record {
      count = λ e. absurd (omega (arith, at, e));
      slots = λ there none. no_place (is_link_place p place) none link;
      links = λ there is. same;
    }

-- a Cas that is lost keeps its word, and one that is won where it leads
cas_leads : (n old new : ℕ) → link_of new ≡ link_of old → link_of (if n == old then new else n) ≡ link_of n
cas_leads n old new same = by_test (n == old) refl
  where
    by_test : (b : Bool) → (n == old) ≡ b → link_of (if b then new else n) ≡ link_of n
    by_test true e = let its : n ≡ old = grind (arith, nat_tests, e) in same ∙ ap (λ (word : ℕ). link_of word) (sym its)
    by_test false e = refl

add_leads : (n k : ℕ) → k % 2 ^ 48 ≡ 0 → link_of ((n + k) % 2 ^ 64) ≡ link_of n
add_leads n k whole = omega (arith, whole)

-- whatever the words are
pub leaves_spares : {A : Type 0} (p : Places) (words : List ℕ) (ask : Ask A) → Spares TheIndex p ask → SparesIndex p words ask
leaves_spares p words (Load place) spares = same_keeps p place (word_at words place)
leaves_spares p words (Store place word) spares = elsewhere_keeps p place _ _ spares
leaves_spares p words (Swap place word) spares = elsewhere_keeps p place _ _ spares
leaves_spares p words (Cas place old new) (inl spares) = elsewhere_keeps p place _ _ spares
leaves_spares p words (Cas place old new) (inr (its, same)) = latch_keeps p place its.bucket _ _ its.at (cas_leads (word_at words place) old new same)
leaves_spares p words (Add place k) (inl spares) = elsewhere_keeps p place _ _ spares
leaves_spares p words (Add place k) (inr (its, whole)) = latch_keeps p place its.bucket _ _ its.at (add_leads (word_at words place) k whole)
leaves_spares p words (Max place k) spares = elsewhere_keeps p place _ _ spares
leaves_spares p words (Put slot action) spares = tt
leaves_spares p words (Take slot) spares = tt
leaves_spares p words (Done its) spares = tt
