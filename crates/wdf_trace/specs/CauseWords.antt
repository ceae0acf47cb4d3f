-- The words that causes begin with.
use Rattle.std.specs.Prelude.{List, ℕ, Option, find, codes}
use Rattle.std.specs.Str.{bytes_eq}
use Rattle.wdf_trace.specs.declared.cause_word.CauseWord.{CauseWord}
use Rattle.wdf_trace.specs.declared.cause_word.CauseWord.TheVariants as cause_word
use Rattle.wdf_trace.specs.declared.cause_word.TheConstants.{CAUSE_WORDS}

-- the word itself
abbrev pub cause_word_text : CauseWord → List ℕ
cause_word_text cause_word.Frame = codes "frame"
cause_word_text cause_word.Lock = codes "lock"
cause_word_text cause_word.Request = codes "request"
cause_word_text cause_word.Work = codes "work"
cause_word_text cause_word.Stopped = codes "stopped"
cause_word_text cause_word.Unpowered = codes "unpowered"
cause_word_text cause_word.Manual = codes "manual"
cause_word_text cause_word.Behind = codes "behind"
cause_word_text cause_word.Full = codes "full"
cause_word_text cause_word.Scope = codes "scope"
cause_word_text cause_word.Cpus = codes "cpus"
cause_word_text cause_word.References = codes "references"
cause_word_text cause_word.Child = codes "child"
cause_word_text cause_word.Sent = codes "sent"

-- the first word of a cause that reads so
abbrev pub cause_word_of : List ℕ → Option CauseWord
cause_word_of word = find (λ x. bytes_eq (cause_word_text x) word) CAUSE_WORDS
