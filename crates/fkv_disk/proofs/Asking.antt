-- How what a device says of the calls to come goes on from stretch to stretch.
use Rattle.std.proofs.Common.{◌≡◌, ℕ, zero, suc, ◌+◌, List, Bool, refl, ◌∙◌, ap, arith}
use Rattle.fkv_disk.specs.Device.{after}
use Rattle.fkv_disk.specs.Kinds.{Kind, Reading, Syncing, Foretold, after_kind, after_reads, OnlyReads, OneSyncThenReads}

after_more : (n m : ℕ) (refuses : ℕ → Bool) → after m (after n refuses) ≡ after (n + m) refuses
after_more zero m refuses = ap (λ (k : ℕ). after k refuses) (let sum : m ≡ 0 + m = omega arith in sum)
after_more (suc n) m refuses = after_more n m (λ i. refuses (i + 1)) ∙ ap (λ (k : ℕ). after k refuses) (let sum : suc (n + m) ≡ suc n + m = omega arith in sum)

reads_more : (n m : ℕ) (says : List Kind → Foretold) → after_reads m (after_reads n says) ≡ after_reads (n + m) says
reads_more zero m says = ap (λ (k : ℕ). after_reads k says) (let sum : m ≡ 0 + m = omega arith in sum)
reads_more (suc n) m says = reads_more n m (after_kind Reading says) ∙ ap (λ (k : ℕ). after_reads k says) (let sum : suc (n + m) ≡ suc n + m = omega arith in sum)

module _ {D : Type 0} (refuses : D → ℕ → Bool) (expects : D → List Kind → Foretold) where
  pub no_read : (old : D) → OnlyReads refuses expects old old
  no_read old = record { reads = 0; counted = refl; kinds = refl }

  pub one_read : (old new : D) → refuses new ≡ after 1 (refuses old) → expects new ≡ after_kind Reading (expects old) → OnlyReads refuses expects old new
  one_read old new counted kind = record { reads = 1; counted = counted; kinds = kind }

  -- reads after reads
  pub more_reads : (old mid new : D) → OnlyReads refuses expects old mid → OnlyReads refuses expects mid new → OnlyReads refuses expects old new
  more_reads old mid new first second = record {
    reads = first.reads + second.reads;
    counted = second.counted ∙ ap (after second.reads) first.counted ∙ after_more first.reads second.reads (refuses old);
    kinds = second.kinds ∙ ap (after_reads second.reads) first.kinds ∙ reads_more first.reads second.reads (expects old);
  }

  pub one_sync : (old new : D) (synced : Bool) → refuses new ≡ after 1 (refuses old) → expects new ≡ after_kind (Syncing synced) (expects old) → OneSyncThenReads refuses expects old new
  one_sync old new synced counted kind = record { synced = synced; reads = 0; counted = counted; kinds = kind }

  -- reads behind a sync and reads
  pub reads_behind : (old mid new : D) → OneSyncThenReads refuses expects old mid → OnlyReads refuses expects mid new → OneSyncThenReads refuses expects old new
  reads_behind old mid new first second = record {
    synced = first.synced;
    reads = first.reads + second.reads;
    counted = second.counted ∙ ap (after second.reads) first.counted ∙ after_more (1 + first.reads) second.reads (refuses old)
        ∙ ap (λ (k : ℕ). after k (refuses old)) (let sum : (1 + first.reads) + second.reads ≡ 1 + (first.reads + second.reads) = omega arith in sum);
    kinds = second.kinds ∙ ap (after_reads second.reads) first.kinds ∙ reads_more first.reads second.reads (after_kind (Syncing first.synced) (expects old));
  }
