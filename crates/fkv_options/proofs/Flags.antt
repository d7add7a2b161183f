-- What is asked for is what clap's matches of the words hold.
use Rattle.std.proofs.Common.{◌≡◌, ◌∙◌, ℕ, Bool, true, false, List, [], Option, Some, None, refl, sym, ap, subst, true≢false}
use Rattle.std.specs.Prelude.{is_some, option_map, string_bytes}
use Rattle.clap.specs.Faults.{fault_of}
use Rattle.clap.specs.Walk.{Text}
use Rattle.fkv_options.specs.Threads.{AskForThreads, IsAsked, file_beside, flag_in, seed_beside, threads_line}
use Rattle.fkv_options.specs.declared.threads.Asked.{Asked}
use Rattle.fkv_options.specs.declared.threads.Asked.TheVariants.{NoThreads, SeedAndThreads, Threads}

module _ (words : List Text) where
  pub asked_so : (flag : Bool) (seed : Option ℕ) (file : Option _) (asked : Asked) → fault_of threads_line words ≡ [] → flag ≡ flag_in words → seed ≡ seed_beside words → option_map string_bytes file ≡ file_beside words
      → (flag ≡ false → asked ≡ NoThreads) → (flag ≡ true → is_some seed ≡ true → asked ≡ SeedAndThreads) → (flag ≡ true → seed ≡ None → asked ≡ Threads file) → IsAsked words asked
  asked_so false seed file asked accepted flag number path none two all =
      subst (IsAsked words) (sym (none refl)) (λ ask. true≢false (sym ask.flag ∙ sym flag))
  asked_so true (Some n) file asked accepted flag number path none two all =
      subst (IsAsked words) (sym (two refl refl)) (record { accepted = accepted; flag = sym flag }, ap is_some (sym number))
  asked_so true None file asked accepted flag number path none two all =
      subst (IsAsked words) (sym (all refl refl)) (record { accepted = accepted; flag = sym flag }, sym number, path)
