-- The triples of a full commit lead into the chains below its end, and cover what the chains have below its first address.
use Rattle.std.proofs.Common.{◌≡◌, inl, inr, ℕ, ◌<◌, ◌≤◌, ◌∙◌, List, ◌++◌, append_assoc, arith, ap, sym, subst, map}
use Rattle.std.specs.List.{AllByRecursion}
use Rattle.std.specs.Prelude.{Option}
use Rattle.fkv_base.specs.declared.commits.CommitKind.{CommitKind}
use Rattle.fkv_base.specs.declared.commits.CommitKind.TheVariants.{Full}
use Rattle.fkv_base.specs.declared.numbers.Addr.{Addr}
use Rattle.law_refine.specs.Below.fkv_checkpoint.Copied.{CopiesTriples}
use Rattle.law_refine.specs.Below.fkv_checkpoint.Copying.{Copier}
use Rattle.law_refine.specs.Below.fkv_checkpoint.CopyWorld.{CopyWorld}
use Rattle.law_refine.specs.Below.fkv_checkpoint.Fuzzy.{AreApart}
use Rattle.law_refine.specs.Below.fkv_checkpoint.Triples.{CopiedEntry, all_bytes, copied_of}
use Rattle.law_refine.proofs.Below.fkv_checkpoint.Shown.{sound_left_out}
use Rattle.law_refine.specs.Below.fkv_commit.Commit.{Commit}
use Rattle.fkv_index.specs.OneEntry.{IsHome}
use Rattle.law_refine.specs.Below.fkv_keeper.CheckpointLaws.{IsBeforeWrites}
use Rattle.law_refine.specs.Below.fkv_keeper.TheKeeping.TheVariants.{Seeks}
use Rattle.law_refine.specs.Below.fkv_keeper.Keeping.{KeeperState, bytes_copied, come_to, triples_written}
use Rattle.fkv_plane.specs.declared.places.Places.{Places}
use Rattle.fkv_words.specs.PhaseWords.{phase_said}
use Rattle.law_refine.specs.Below.fkv_world.OwnEvents.{keeper_events}
use Rattle.law_refine.specs.Below.fkv_world.Runs.{World, run}
use Rattle.law_refine.specs.Below.fkv_world.World.{Event}
use Rattle.law_refine.proofs.Below.fkv_world.Shown.{places_stay}
use Rattle.law_log.specs.Ghosts.{Ghosts}
use Rattle.law_log.specs.Trace.{IsIn}
use Rattle.law_refine.specs.Below.law_world.Guarded.Shows as guard
use Rattle.law_refine.specs.Index.Shows as index
use Rattle.law_refine.proofs.OfIndex.Permitted.{are_permitted}
use Rattle.law_refine.proofs.OfIndex.Worlds.{life_shows}
use Rattle.law_refine.specs.Events.GhostEvents.{home_number, life_ghosts}
use Rattle.law_refine.specs.Events.Reserved.{tail_at}
use Rattle.law_refine.specs.Heads.Heads.{LeadToHeads}
use Rattle.law_refine.specs.Below.law_world.Keeper.Lives.{replies_copied}
use Rattle.law_commit.specs.Copied.Covers.{CoverHeads, HasStoodSince, LeadIntoChains, MayBeCopied, before_copy}
use Rattle.law_commit.specs.Copied.Runs.{HasInHand, copy_events, opening_copy, seen_by_copy}
use Rattle.law_commit.specs.Decided.Below.{FullCommitsSpellChains, OpensWhole, SpellsChains}
use Rattle.law_commit.specs.Decided.Cells.{ChainsTaken, DecidedBelow}
use Rattle.law_commit.specs.Decided.Ended.{HadMoment, LoadsEnd, Span, span_of}
use Rattle.law_commit.specs.Decided.Laws.{LieBelow}
use Rattle.law_commit.specs.Floor.Stands.{FloorAlwaysStands, PaperIsSound}
use Rattle.law_commit.specs.PhaseStores.{phase_at}
use Rattle.law_commit.proofs.InRest.{awake_so, come_awake}
use Rattle.law_commit.proofs.LifeBegun.{life_rests}
use Rattle.law_commit.proofs.OfCopied.Began.{all_of, life_since, since_copy}
use Rattle.law_commit.proofs.OfCopied.BegunFor.{life_begun_for}
use Rattle.law_commit.proofs.OfCopied.Covers.{life_covers, life_grown, life_in_chains}
use Rattle.law_commit.proofs.OfCopied.HomesApart.{triples_apart}
use Rattle.law_commit.proofs.OfCopied.Leads.{HasHeads}
use Rattle.law_commit.proofs.OfCopied.Lives.{life_copies, life_keeps}
use Rattle.law_commit.proofs.OfCopied.Sound.{life_sound}
use Rattle.law_commit.proofs.OfDecided.BelowEnd.{with_decided}
use Rattle.law_commit.proofs.OfDecided.Chained.{triples_below}
use Rattle.law_commit.proofs.OfDecided.ChainsGrow.{life_chained}
use Rattle.law_commit.proofs.OfDecided.Ended.{have_ended}
use Rattle.law_commit.proofs.OfDecided.Ends.{settled_first}
use Rattle.law_commit.proofs.OfDecided.Lives.{before_copies, copy_from}

-- ---- the copy that is written
module _ (opening : World) (start : ℕ) (lists : ℕ → List ℕ) (ghosts : Ghosts) (opens : OpensWhole opening start ghosts) (in_order : index.IsOpened opening lists) (heads : LeadToHeads opening.now lists ghosts.log) (taken : ChainsTaken ghosts.log) where
  guarded : guard.IsOpened opening.now start
  guarded = let quiet = opens.quiet in quiet.guarded

  has_heads : HasHeads opening start lists ghosts
  has_heads = record { opened = guarded; in_order = in_order; none = opens.unborn; free = opens.decided; leads = heads }

  -- as its end is loaded the copy is finished, and in hand
  module _ (x : Span) (moment : List Event) (its : LoadsEnd x (run opening moment).now) (full : x.kind ≡ Full) where
    abbrev copy : CopyWorld
    copy = seen_by_copy opening lists moment

    abbrev commit_full : Commit → Type 0
    commit_full c = c.kind ≡ Full

    kind_full : commit_full its.commit
    kind_full = ap (λ (y : Span). y.kind) (sym its.its) ∙ full

    in_hand : HasInHand opening.now.places (run opening moment).now.keeper copy
    in_hand = life_keeps opening lists moment in_order its.commit its.in_hand kind_full its.copied its.works (subst IsBeforeWrites (sym come) tt)
      where
        s : KeeperState
        s = (run opening moment).now.keeper

        come : come_to s ≡ Seeks
        come = come_awake s Seeks (awake_so s Seeks its.seeks (λ may. may) (life_rests opening moment opens.quiet.opened)) its.seeks

    bytes : x.triples ≡ all_bytes copy.triples
    bytes = its.triples ∙ (ap (λ (k : CommitKind). triples_written k (run opening moment).now.keeper.copy) full ∙ ap (λ (m : Option Copier). bytes_copied m) in_hand.in_hand)

    stood : AllByRecursion (HasStoodSince opening lists moment) copy.triples
    stood = life_since opening lists moment in_order (life_sound opening lists moment in_order).stood

    its_home : (e : CopiedEntry) → HasStoodSince opening lists moment e → IsHome opening.now.places e.home
    its_home e since =
        let shows = life_shows opening lists since.moment in_order (are_permitted opening lists since.moment in_order) in
        let was = since.stood in
        subst (λ (p : Places). IsHome p e.home) (shows.places ∙ places_stay opening since.moment) was.its_home

    in_chains : (later : List Event) → LeadIntoChains copy.triples (life_ghosts opening ghosts (later ++ moment)).log
    in_chains later = all_of copy.triples (λ e is_in. life_grown opening ghosts later moment e.addr (home_number e.home) is_in) (life_in_chains opening start lists ghosts moment has_heads stood)

    below : LieBelow x.end.0 copy.triples
    below = subst (λ (t : ℕ). LieBelow t copy.triples) (sym its.tail) (triples_below opening start lists ghosts moment guarded in_order opens.unborn opens.decided heads taken)

    apart : AreApart copy.triples
    apart = let sound = life_sound opening lists moment in_order in let copied = sound.copied in copied.apart

    covers : CoverHeads opening.now.places copy.triples (life_ghosts opening ghosts (before_copy opening moment)).log
    covers = life_covers opening start lists ghosts moment has_heads (sound_left_out (opening_copy opening lists) (copy_events opening moment) (life_sound opening lists moment in_order)) in_hand.finished

    -- and since its beginning no chain has got anything below the commit's first address
    module _ (paper_sound : PaperIsSound) (floor : FloorAlwaysStands) where
      began : MayBeCopied (run opening (before_copy opening moment)).now its.commit
      began = life_begun_for opening moment guarded.keeper its.commit its.in_hand kind_full its.copied

      first_is : its.commit.first.0 ≡ x.first.0
      first_is = ap (λ (y : Span). y.first.0) (sym its.its)

      first_low : x.first.0 ≤ tail_at (run opening (before_copy opening moment)).now
      first_low =
          let quiet = opens.quiet in
          let settled = settled_first paper_sound floor opening start ghosts (before_copy opening moment) began.commit (with_decided opening start ghosts opens) quiet.seen began.in_hand
          (copy_from (phase_said (phase_at (run opening (before_copy opening moment)).now)) began.phase) in
          let low = settled.0 in
          let same = ap (λ (f : Addr). f.0) began.first in
          let mine = first_is in
          omega (arith, low, same, mine)

      decided : DecidedBelow x.first.0 (life_ghosts opening ghosts (before_copy opening moment)).log
      decided a entry cell low e =
          let quiet = opens.quiet in
          let mine = first_is in
          before_copies floor opening start ghosts moment its.commit (with_decided opening start ghosts opens) quiet.seen its.in_hand kind_full its.copied a entry cell (omega (arith, low, mine)) e

      none_new : (later : List Event) (h a : ℕ) → IsIn a ((life_ghosts opening ghosts (later ++ before_copy opening moment)).log.chains h) → a < x.first.0 → IsIn a ((life_ghosts opening ghosts (before_copy opening moment)).log.chains h)
      none_new later h a is_in low = life_chained opening start ghosts guarded x.first.0 later (before_copy opening moment) h a first_low low decided is_in

      -- ---- so its triples are spelled in what is written
      spelled : CopiesTriples → (later : List Event) → SpellsChains opening.now.places opening ghosts (later ++ moment) x
      spelled copies later =
          let told = (life_copies opening lists moment in_order).told in
          let made = copies opening.now.places (replies_copied opening (keeper_events opening moment)) in
          let said : copy.triples ≡ map copied_of made.triples = told.triples ∙ sym made.said in
          let since = since_copy opening moment in
          let split : later ++ moment ≡ (later ++ since.later) ++ before_copy opening moment = ap (λ (e : List Event). later ++ e) since.split ∙ sym (append_assoc later since.later (before_copy opening moment)) in
          record {
            triples = made.triples;
            spelled = made.spelled ∙ (ap all_bytes (sym told.triples) ∙ sym bytes);
            in_index = subst (AllByRecursion (λ (e : CopiedEntry). IsHome opening.now.places e.home)) said (all_of copy.triples its_home stood);
            in_chains = subst (λ (t : List CopiedEntry). LeadIntoChains t (life_ghosts opening ghosts (later ++ moment)).log) said (in_chains later);
            below = subst (LieBelow x.end.0) said below;
            apart = triples_apart made.triples (subst AreApart said apart);
            begun = before_copy opening moment;
            later = later ++ since.later;
            split = split;
            covers = subst (λ (t : List CopiedEntry). CoverHeads opening.now.places t (life_ghosts opening ghosts (before_copy opening moment)).log) said covers;
            none_new = λ h a is_in low. none_new (later ++ since.later) h a (subst (λ (e : List Event). IsIn a ((life_ghosts opening ghosts e).log.chains h)) split is_in) low;
          }

pub full_spell : PaperIsSound → FloorAlwaysStands → CopiesTriples → FullCommitsSpellChains
full_spell paper_sound floor copies opening start lists ghosts events c opens in_order heads taken there full = elim (have_ended opening start events c opens.quiet there) [
  | inl its ↦
      let had : HadMoment (LoadsEnd (span_of c)) opening events = its.end in
      inl (subst (λ (e : List Event). SpellsChains opening.now.places opening ghosts e (span_of c)) (sym had.split)
      (spelled opening start lists ghosts opens in_order heads taken (span_of c) had.moment had.was full paper_sound floor copies had.later))
  | inr first ↦ inr first
]
