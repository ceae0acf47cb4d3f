-- The keys of signs, by which they are looked up.
use Rattle.std.specs.Prelude.{if◌then◌else◌, ℕ, Bool, true, false, List, [], ◌∷◌, fold, Option, Some, None, option_map}
use Rattle.std.specs.HashMap.{HashMap, get}
use Rattle.wdf_base.specs.declared.call.CallKind.TheVariants as call
use Rattle.wdf_base.specs.declared.call.Callback.TheVariants as callback
use Rattle.wdf_base.specs.declared.event.Stage.TheVariants as stage
use Rattle.wdf_base.specs.declared.event.Event.{Event}
use Rattle.wdf_laws.specs.declared.sign.Sign.{Sign}
use Rattle.wdf_laws.specs.declared.sign.Sign.TheVariants as sign
use Rattle.wdf_laws.specs.declared.sign.Taking.{Taking}
use Rattle.wdf_laws.specs.Events.{called, called_well, begun_on, begun_for, ended_on, passed, passed_for, arrived, cancel_posted, completed, taken, given_up, headed, tailed, acknowledged, mark_undone, cleaned, destroyed}
use Rattle.check_past.specs.declared.key.Kind.{Kind}
use Rattle.check_past.specs.declared.key.Kind.TheVariants as kind
use Rattle.check_past.specs.declared.key.Key.{Key}
use Rattle.check_past.specs.contracts.key.KeyPartialEq.TheImpl as derived
use Rattle.check_past.specs.Maps.{or_zero}

-- the key of a sign of this kind, of one id
abbrev pub single : Kind → ℕ → Key
single kind id = record { kind = kind; id = id; queue = 0 }

-- the key of a taking
abbrev pub taking : ℕ → ℕ → Key
taking request queue = record { kind = kind.TakingFrom; id = request; queue = queue }

-- the key of a sign
abbrev pub key_of : Sign → Key
key_of (sign.Arrival r) = single kind.Arrival r
key_of (sign.Completion r) = single kind.Completion r
key_of (sign.TakingFrom r q) = taking r q
key_of (sign.GivingUp r) = single kind.GivingUp r
key_of (sign.AtHead r) = single kind.AtHead r
key_of (sign.Entry r) = single kind.Entry r
key_of (sign.Acknowledgement r) = single kind.Acknowledgement r
key_of (sign.CancelPosted r) = single kind.CancelPosted r
key_of (sign.CancelBegins r) = single kind.CancelBegins r
key_of (sign.Marked r) = single kind.Marked r
key_of (sign.MarkUndone r) = single kind.MarkUndone r
key_of (sign.Enabled i) = single kind.Enabled i
key_of (sign.Disabled i) = single kind.Disabled i
key_of (sign.QueuesUp d) = single kind.QueuesUp d
key_of (sign.QueuesDown d) = single kind.QueuesDown d
key_of (sign.Entered d) = single kind.Entered d
key_of (sign.NotEntered d) = single kind.NotEntered d
key_of (sign.ExitBegins d) = single kind.ExitBegins d
key_of (sign.Cleaned o) = single kind.Cleaned o
key_of (sign.Destroyed o) = single kind.Destroyed o
key_of (sign.Referenced o) = single kind.Referenced o
key_of (sign.Dereferenced o) = single kind.Dereferenced o

-- two keys are the same
abbrev pub same_key : Key → Key → Bool
same_key = (derived.ghosts).eq

-- the number at a sign, 0 for none
abbrev pub number_of : {S : Type 0} → HashMap Key ℕ S → Sign → ℕ
number_of numbers s = or_zero (get same_key numbers (key_of s))

-- a key is there, and is that of this sign
unfoldable pub is_key_of : Sign → Option Key → Bool
is_key_of s None = false
is_key_of s (Some k) = same_key k (key_of s)

-- the number at a sign after this number is noted at a key, if there is one, or at each that is there
unfoldable pub noted : Option Key → ℕ → Sign → ℕ → ℕ
noted key number s kept = if is_key_of s key then number else kept

unfoldable pub noted_each : List (Option Key) → ℕ → Sign → ℕ → ℕ
noted_each shown number s kept = fold (λ n key. noted key number s n) kept shown

-- the key of a sign of this kind, if its id is there
abbrev pub key_in : Kind → Option ℕ → Option Key
key_in kind id = option_map (single kind) id

-- the key of a taking, if it is there
abbrev pub key_in_taking : Option Taking → Option Key
key_in_taking taken = option_map (λ (t : Taking). taking t.request t.queue) taken

-- the keys of the signs that an event shows
abbrev pub keys_of : Event → List (Option Key)
keys_of e =
    key_in kind.Arrival (arrived e)
    ∷ key_in kind.Completion (completed e)
    ∷ key_in_taking (taken e)
    ∷ key_in kind.GivingUp (given_up e)
    ∷ key_in kind.AtHead (headed e)
    ∷ key_in kind.Entry (headed e)
    ∷ key_in kind.Entry (tailed e)
    ∷ key_in kind.Acknowledgement (acknowledged e)
    ∷ key_in kind.CancelPosted (cancel_posted e)
    ∷ key_in kind.CancelBegins (begun_for callback.EvtRequestCancel e)
    ∷ key_in kind.Marked (called_well call.WdfRequestMarkCancelableEx e)
    ∷ key_in kind.MarkUndone (mark_undone e)
    ∷ key_in kind.Enabled (passed_for stage.Enabled e)
    ∷ key_in kind.Disabled (passed_for stage.Disabled e)
    ∷ key_in kind.QueuesUp (passed stage.QueuesUp e)
    ∷ key_in kind.QueuesDown (passed stage.QueuesDown e)
    ∷ key_in kind.Entered (ended_on callback.EvtDeviceD0Entry true e)
    ∷ key_in kind.NotEntered (ended_on callback.EvtDeviceD0Entry false e)
    ∷ key_in kind.NotEntered (begun_on callback.EvtDeviceD0Exit e)
    ∷ key_in kind.ExitBegins (begun_on callback.EvtDeviceD0Exit e)
    ∷ key_in kind.Cleaned (cleaned e)
    ∷ key_in kind.Destroyed (destroyed e)
    ∷ key_in kind.Referenced (called call.WdfObjectReference e)
    ∷ key_in kind.Dereferenced (called call.WdfObjectDereference e)
    ∷ []
