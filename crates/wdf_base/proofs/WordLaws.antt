-- Each word is read back, and nothing else is read so.
use Rattle.std.proofs.Common.{◌≡◌, Bool, true, false, cond, find, Option, Some, List, [], ◌∷◌, ℕ, refl}
use Rattle.std.proofs.lemmas.Slice.Eq.{bytes_eq-Decides}
use Rattle.std.specs.Str.{bytes_eq}
use Rattle.wdf_base.specs.declared.value.Status.{Status}
use Rattle.wdf_base.specs.declared.value.Status.TheVariants as status
use Rattle.wdf_base.specs.declared.call.Callback.{Callback}
use Rattle.wdf_base.specs.declared.call.Callback.TheVariants as callback
use Rattle.wdf_base.specs.declared.call.CallKind.{CallKind}
use Rattle.wdf_base.specs.declared.call.CallKind.TheVariants as call
use Rattle.wdf_base.specs.declared.event.Fault.{Fault}
use Rattle.wdf_base.specs.declared.event.Fault.TheVariants as fault
use Rattle.wdf_base.specs.declared.event.Stage.{Stage}
use Rattle.wdf_base.specs.declared.event.Stage.TheVariants as stage
use Rattle.wdf_base.specs.declared.event.Ask.{Ask}
use Rattle.wdf_base.specs.declared.event.Ask.TheVariants as ask
use Rattle.wdf_base.specs.declared.words.TheConstants.{STATUSES, CALLBACKS, CALL_KINDS, FAULTS, STAGES, ASKS}
use Rattle.wdf_base.specs.Words.{status_word, status_of, callback_word, callback_of, call_word, call_of, fault_word, fault_of, stage_word, stage_of, ask_word, ask_of}

-- what is found first passes, or the rest finds it
found_first : {X : Type 0} (p : X → Bool) (b : Bool) (y x : X) (rest : Option X) → p y ≡ b → (rest ≡ Some x → p x ≡ true) → cond b (Some y) rest ≡ Some x → p x ≡ true
found_first p true y x rest here later e = let one : y ≡ x = cc in cc
found_first p false y x rest here later e = later e

-- what is found passes
pub find_passes : {X : Type 0} (p : X → Bool) (xs : List X) (x : X) → find p xs ≡ Some x → p x ≡ true
find_passes p [] x e = absurd (let z : ⊥ = cc in z)
find_passes p (y ∷ ys) x e = found_first p (p y) y x (find p ys) refl (find_passes p ys x) e

pub status-back : (x : Status) → status_of (status_word x) ≡ Some x
status-back status.Success = refl
status-back _ = refl

pub status-only : (x : Status) (word : List ℕ) → status_of word ≡ Some x → status_word x ≡ word
status-only x word e = (bytes_eq-Decides (status_word x) word).0 (find_passes (λ y. bytes_eq (status_word y) word) STATUSES x e)

pub callback-back : (x : Callback) → callback_of (callback_word x) ≡ Some x
callback-back callback.EvtInterruptIsr = refl
callback-back _ = refl

pub callback-only : (x : Callback) (word : List ℕ) → callback_of word ≡ Some x → callback_word x ≡ word
callback-only x word e = (bytes_eq-Decides (callback_word x) word).0 (find_passes (λ y. bytes_eq (callback_word y) word) CALLBACKS x e)

pub call-back : (x : CallKind) → call_of (call_word x) ≡ Some x
call-back call.WdfObjectCreate = refl
call-back _ = refl

pub call-only : (x : CallKind) (word : List ℕ) → call_of word ≡ Some x → call_word x ≡ word
call-only x word e = (bytes_eq-Decides (call_word x) word).0 (find_passes (λ y. bytes_eq (call_word y) word) CALL_KINDS x e)

pub fault-back : (x : Fault) → fault_of (fault_word x) ≡ Some x
fault-back fault.StaleHandle = refl
fault-back _ = refl

pub fault-only : (x : Fault) (word : List ℕ) → fault_of word ≡ Some x → fault_word x ≡ word
fault-only x word e = (bytes_eq-Decides (fault_word x) word).0 (find_passes (λ y. bytes_eq (fault_word y) word) FAULTS x e)

pub stage-back : (x : Stage) → stage_of (stage_word x) ≡ Some x
stage-back stage.Hardware = refl
stage-back _ = refl

pub stage-only : (x : Stage) (word : List ℕ) → stage_of word ≡ Some x → stage_word x ≡ word
stage-only x word e = (bytes_eq-Decides (stage_word x) word).0 (find_passes (λ y. bytes_eq (stage_word y) word) STAGES x e)

pub ask-back : (x : Ask) → ask_of (ask_word x) ≡ Some x
ask-back ask.Start = refl
ask-back _ = refl

pub ask-only : (x : Ask) (word : List ℕ) → ask_of word ≡ Some x → ask_word x ≡ word
ask-only x word e = (bytes_eq-Decides (ask_word x) word).0 (find_passes (λ y. bytes_eq (ask_word y) word) ASKS x e)
