-- The words that give the kinds of events.
use Rattle.std.specs.Prelude.{if◌then◌else◌, ◌==◌, List, [], ◌∷◌, ℕ, Option, find, codes}
use Rattle.std.specs.Str.{bytes_eq}
use Rattle.wdf_trace.specs.declared.verb.Verb.{Verb}
use Rattle.wdf_trace.specs.declared.verb.Verb.TheVariants as verb
use Rattle.wdf_trace.specs.declared.verb.TheConstants.{VERBS}

-- the word of a kind of events
abbrev pub verb_word : Verb → List ℕ
verb_word verb.Start = codes "start"
verb_word verb.Step = codes "step"
verb_word verb.Log = codes "log"
verb_word verb.Spend = codes "spend"
verb_word verb.Get = codes "get"
verb_word verb.Put = codes "put"
verb_word verb.Call = codes "call"
verb_word verb.Wait = codes "wait"
verb_word verb.Woke = codes "woke"
verb_word verb.Park = codes "park"
verb_word verb.Unpark = codes "unpark"
verb_word verb.End = codes "end"
verb_word verb.Fault = codes "fault"
verb_word verb.Stage = codes "stage"
verb_word verb.Complete = codes "complete"
verb_word verb.Cleanup = codes "cleanup"
verb_word verb.Destroy = codes "destroy"
verb_word verb.Read = codes "read"
verb_word verb.Write = codes "write"
verb_word verb.Control = codes "control"
verb_word verb.Cancel = codes "cancel"
verb_word verb.Set = codes "set"
verb_word verb.Raise = codes "raise"
verb_word verb.Lower = codes "lower"
verb_word verb.Done = codes "done"
verb_word verb.Tick = codes "tick"

-- the kind of events that has this word
abbrev pub verb_of : List ℕ → Option Verb
verb_of word = find (λ x. bytes_eq (verb_word x) word) VERBS

-- the kinds of events whose words begin with a letter
unfoldable pub with_letter : ℕ → List Verb
with_letter c =
    if c == 99 then verb.Call ∷ verb.Complete ∷ verb.Cleanup ∷ verb.Control ∷ verb.Cancel ∷ []
    else (if c == 100 then verb.Done ∷ verb.Destroy ∷ []
    else (if c == 101 then verb.End ∷ []
    else (if c == 102 then verb.Fault ∷ []
    else (if c == 103 then verb.Get ∷ []
    else (if c == 108 then verb.Log ∷ verb.Lower ∷ []
    else (if c == 112 then verb.Put ∷ verb.Park ∷ []
    else (if c == 114 then verb.Read ∷ verb.Raise ∷ []
    else (if c == 115 then verb.Step ∷ verb.Start ∷ verb.Stage ∷ verb.Spend ∷ verb.Set ∷ []
    else (if c == 116 then verb.Tick ∷ []
    else (if c == 117 then verb.Unpark ∷ []
    else (if c == 119 then verb.Wait ∷ verb.Woke ∷ verb.Write ∷ []
    else [])))))))))))

-- those among which that with this word is
abbrev pub alike : List ℕ → List Verb
alike [] = []
alike (letter ∷ word) = with_letter letter
