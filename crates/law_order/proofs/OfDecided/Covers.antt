-- What a full commit writes covers the chains, in an image that has its triples.
use Rattle.std.proofs.Common.{◌≡◌, inl, inr, ℕ, zero, suc, ◌<◌, ◌≤◌, ◌^◌, ◌∙◌, List, [], ◌∷◌, refl, arith, ap, subst, sym, map}
use Rattle.std.specs.Prelude.{Some, slice_get}
use Rattle.law_commit.specs.Below.fkv_checkpoint.Fuzzy.{HasCopy}
use Rattle.law_commit.specs.Below.fkv_checkpoint.Triples.{CopiedEntry, copied_of}
use Rattle.law_opening.specs.Below.fkv_core.Openings.{beginning}
use Rattle.fkv_index.specs.declared.homes.Home.{Home}
use Rattle.fkv_index.specs.Slots.{home_of}
use Rattle.fkv_index.specs.OneEntry.{IsHome}
use Rattle.fkv_index.proofs.Shown.{homes_are_there}
use Rattle.law_opening.specs.Below.fkv_opening.TheOpened.{Opened}
use Rattle.fkv_record.specs.declared.triples.Triple.{Triple}
use Rattle.law_opening.specs.Below.fkv_scan.Log as scan
use Rattle.law_commit.specs.Below.fkv_world.World.{Event, Now}
use Rattle.law_opening.specs.Changes.Linked.{ChainsFall, IsFalling}
use Rattle.law_log.specs.Chains.{head_of}
use Rattle.law_log.specs.Ghosts.{Log}
use Rattle.law_log.specs.Trace.{IsIn}
use Rattle.law_opening.specs.Log.OpeningLog.{opening_ghosts}
use Rattle.law_commit.specs.Below.law_paper.Paper.Stands.{CoversChains}
use Rattle.law_commit.specs.Below.law_refine.Events.GhostEvents.{home_in, home_number, life_ghosts}
use Rattle.law_commit.specs.Below.law_refine.Heads.Heads.{head_at}
use Rattle.law_commit.specs.BegunCommits.{BegunCommit}
use Rattle.law_commit.specs.Decided.Below.{SpellsChains}
use Rattle.law_commit.specs.Decided.Ended.{span_of}
use Rattle.law_commit.proofs.OfCopied.HomesApart.{one_of}
use Rattle.law_order.specs.Decided.Cut.{StartsAt, WritesCover}

-- ---- a chain begins at its highest address
below_head : (chain : List ℕ) (a : ℕ) → IsFalling chain → IsIn a chain → (a ≤ head_of chain) × (0 < a)
below_head [] a falls is_in = absurd is_in
below_head (b ∷ older) a falls (inl same) = let low = falls.0 in (omega (arith, same), omega (arith, low, same))
below_head (b ∷ older) a falls (inr is_in) = let its = below_head older a falls.1 is_in in let one = its.0 in let low = falls.0 in (omega (arith, one, low), its.1)

-- ---- the triple of a home that was copied
record CopiedTriple (triples : List Triple) (home : Home) (addr : ℕ) : Type 0 where
  place : ℕ
  triple : Triple
  stands : slice_get triples place ≡ Some triple
  same : (copied_of triple).home ≡ home
  high : addr ≤ (copied_of triple).addr

copied_triple : (triples : List Triple) (home : Home) (addr : ℕ) → HasCopy (map copied_of triples) home addr → CopiedTriple triples home addr
copied_triple [] home addr has = absurd has
copied_triple (x ∷ triples) home addr (inl here) = record { place = zero; triple = x; stands = refl; same = here.0; high = here.1 }
copied_triple (x ∷ triples) home addr (inr there) =
    let its = copied_triple triples home addr there in
    record { place = suc its.place; triple = its.triple; stands = its.stands; same = its.same; high = its.high }

module _ (o : Opened) (n : Now) (bytes : List ℕ) (events : List Event) (c : BegunCommit) (buckets : n.places.buckets ≡ 2 ^ n.shape.bucket_bits)
    (falls : (before : List Event) → ChainsFall (home_in n.shape.bucket_bits) (life_ghosts (beginning n bytes) (opening_ghosts bytes o) before).log)
    (its : SpellsChains n.places (beginning n bytes) (opening_ghosts bytes o) events (span_of c)) where
  abbrev log : Log
  log = (life_ghosts (beginning n bytes) (opening_ghosts bytes o) events).log

  abbrev then_log : Log
  then_log = (life_ghosts (beginning n bytes) (opening_ghosts bytes o) its.begun).log

  in_index : (i : ℕ) (x : Triple) → slice_get its.triples i ≡ Some x → x.bucket < 2 ^ n.shape.bucket_bits
  in_index i x there = let home = one_of (λ (e : CopiedEntry). IsHome n.places e.home) its.triples i x its.in_index there in subst (λ (most : ℕ). x.bucket < most) buckets home.few

  below : scan.AreBelow c.parts.end.0 its.triples
  below i x there = one_of (λ (e : CopiedEntry). e.addr < c.parts.end.0) its.triples i x its.below there

  in_chain : (i : ℕ) (x : Triple) → slice_get its.triples i ≡ Some x → IsIn x.addr.0 (log.chains (home_number (copied_of x).home))
  in_chain i x there = one_of (λ (e : CopiedEntry). IsIn e.addr (log.chains (home_number e.home))) its.triples i x its.in_chains there

  -- the triple of the home of a record below the commit's first address
  module _ (h a : ℕ) (is_in : IsIn a (log.chains h)) (low : a < c.parts.first.0) where
    was : IsIn a (then_log.chains h)
    was = its.none_new h a is_in low

    of_home : (key : ℕ) × (home_in n.shape.bucket_bits key ≡ h)
    of_home = (falls its.begun).of_home h a was

    abbrev home : Home
    home = home_of n.shape.bucket_bits (record { 0 = of_home.0 })

    same_home : home_number home ≡ h
    same_home = of_home.1

    there : IsHome n.places home
    there = homes_are_there n.places n.shape.bucket_bits (record { 0 = of_home.0 }) buckets

    high : (a ≤ head_at then_log home) × (0 < a)
    high = subst (λ (k : ℕ). (a ≤ head_of (then_log.chains k)) × (0 < a)) (sym same_home) (below_head (then_log.chains h) a ((falls its.begun).falls h) was)

    some : head_at then_log home ≡ 0 → ⊥
    some none = let up = high in let one = up.0 in let two = up.1 in omega (arith, one, two, none)

    copied : CopiedTriple its.triples home (head_at then_log home)
    copied = copied_triple its.triples home (head_at then_log home) (its.covers home there some)

  covers_chains : (image : scan.Log) → image.triples ≡ its.triples → StartsAt image c → CoversChains image log
  covers_chains image same at = record {
    in_chain = λ h t has.
        let stands = subst (λ (ts : List Triple). slice_get ts has.place ≡ Some has.triple) same has.stands in
        subst (λ (k : ℕ). IsIn t (log.chains k)) has.same (subst (λ (b : ℕ). IsIn b (log.chains (home_number (copied_of has.triple).home))) has.address (in_chain has.place has.triple stands));
    below = λ h t has.
        let stands = subst (λ (ts : List Triple). slice_get ts has.place ≡ Some has.triple) same has.stands in
        let addr = has.address in
        let one = below has.place has.triple stands in
        let tail = at.tail in
        omega (arith, addr, one, tail);
    apart = subst scan.AreApart (sym same) its.apart;
    covers = λ h a is_in begun low.
        let start = at.start in
        let under : a < c.parts.first.0 = omega (arith, low, start) in
        let x = copied h a is_in under in
        let up = (high h a is_in under).0 in
        let more = x.high in (
          x.triple.addr.0,
          record {
            place = x.place;
            triple = x.triple;
            stands = subst (λ (ts : List Triple). slice_get ts x.place ≡ Some x.triple) (sym same) x.stands;
            same = ap home_number x.same ∙ same_home h a is_in under;
            address = refl;
            in_log = omega (arith, begun, up, more);
          },
          omega (arith, up, more),
        );
  }

  pub writes_cover : WritesCover o n bytes events c
  writes_cover = record { triples = its.triples; spelled = its.spelled; in_index = in_index; below = below; apart = its.apart; covers = covers_chains }
