-- The fixed words of the language.
use Rattle.std.specs.Prelude.{◌==◌, if◌then◌else◌, List, [], ◌∷◌, ℕ, Option, find, codes}
use Rattle.std.specs.Str.{bytes_eq}
use Rattle.wdf_tokens.specs.declared.keyword.Keyword.{Keyword}
use Rattle.wdf_tokens.specs.declared.keyword.Keyword.TheVariants as keyword
use Rattle.wdf_tokens.specs.declared.keyword.TheConstants.{KEYWORDS}

-- the word of a keyword
abbrev pub keyword_word : Keyword → List ℕ
keyword_word keyword.Version = codes "version"
keyword_word keyword.Cpus = codes "cpus"
keyword_word keyword.Limit = codes "limit"
keyword_word keyword.Objects = codes "objects"
keyword_word keyword.Driver = codes "driver"
keyword_word keyword.Class = codes "class"
keyword_word keyword.Device = codes "device"
keyword_word keyword.Interrupt = codes "interrupt"
keyword_word keyword.Queue = codes "queue"
keyword_word keyword.Target = codes "target"
keyword_word keyword.App = codes "app"
keyword_word keyword.Pnp = codes "pnp"
keyword_word keyword.Order = codes "order"
keyword_word keyword.On = codes "on"
keyword_word keyword.End = codes "end"
keyword_word keyword.Scope = codes "scope"
keyword_word keyword.Level = codes "level"
keyword_word keyword.Serialize = codes "serialize"
keyword_word keyword.Period = codes "period"
keyword_word keyword.Register = codes "register"
keyword_word keyword.When = codes "when"
keyword_word keyword.At = codes "at"
keyword_word keyword.Default = codes "default"
keyword_word keyword.For = codes "for"
keyword_word keyword.Power = codes "power"
keyword_word keyword.Zero = codes "zero"
keyword_word keyword.Picks = codes "picks"
keyword_word keyword.Let = codes "let"
keyword_word keyword.Call = codes "call"
keyword_word keyword.Get = codes "get"
keyword_word keyword.Put = codes "put"
keyword_word keyword.If = codes "if"
keyword_word keyword.Else = codes "else"
keyword_word keyword.Repeat = codes "repeat"
keyword_word keyword.Spend = codes "spend"
keyword_word keyword.Log = codes "log"
keyword_word keyword.Return = codes "return"
keyword_word keyword.Working = codes "working"
keyword_word keyword.Sequential = codes "sequential"
keyword_word keyword.Parallel = codes "parallel"
keyword_word keyword.Manual = codes "manual"
keyword_word keyword.Inherit = codes "inherit"
keyword_word keyword.Off = codes "off"
keyword_word keyword.Passive = codes "passive"
keyword_word keyword.After = codes "after"
keyword_word keyword.Set = codes "set"
keyword_word keyword.Raise = codes "raise"
keyword_word keyword.Lower = codes "lower"
keyword_word keyword.Read = codes "read"
keyword_word keyword.Write = codes "write"
keyword_word keyword.Control = codes "control"
keyword_word keyword.Cancel = codes "cancel"

-- the keyword that has this word
unfoldable pub keyword_of : List ℕ → Option Keyword
keyword_of word = find (λ x. bytes_eq (keyword_word x) word) KEYWORDS

-- the keywords that begin with a letter
unfoldable pub with_letter : ℕ → List Keyword
with_letter c =
    if c == 97 then keyword.At ∷ keyword.App ∷ keyword.After ∷ []
    else (if c == 99 then keyword.Call ∷ keyword.Cancel ∷ keyword.Class ∷ keyword.Control ∷ keyword.Cpus ∷ []
    else (if c == 100 then keyword.Device ∷ keyword.Default ∷ keyword.Driver ∷ []
    else (if c == 101 then keyword.End ∷ keyword.Else ∷ []
    else (if c == 102 then keyword.For ∷ []
    else (if c == 103 then keyword.Get ∷ []
    else (if c == 105 then keyword.Interrupt ∷ keyword.If ∷ keyword.Inherit ∷ []
    else (if c == 108 then keyword.Let ∷ keyword.Log ∷ keyword.Limit ∷ keyword.Level ∷ keyword.Lower ∷ []
    else (if c == 109 then keyword.Manual ∷ []
    else (if c == 111 then keyword.On ∷ keyword.Objects ∷ keyword.Order ∷ keyword.Off ∷ []
    else (if c == 112 then keyword.Picks ∷ keyword.Put ∷ keyword.Parallel ∷ keyword.Pnp ∷ keyword.Period ∷ keyword.Power ∷ keyword.Passive ∷ []
    else (if c == 113 then keyword.Queue ∷ []
    else (if c == 114 then keyword.Read ∷ keyword.Return ∷ keyword.Repeat ∷ keyword.Register ∷ keyword.Raise ∷ []
    else (if c == 115 then keyword.Spend ∷ keyword.Set ∷ keyword.Scope ∷ keyword.Serialize ∷ keyword.Sequential ∷ []
    else (if c == 116 then keyword.Target ∷ []
    else (if c == 118 then keyword.Version ∷ []
    else (if c == 119 then keyword.Write ∷ keyword.When ∷ keyword.Working ∷ []
    else (if c == 122 then keyword.Zero ∷ []
    else [])))))))))))))))))

-- the keywords among which that with this word is
abbrev pub alike : List ℕ → List Keyword
alike [] = []
alike (letter ∷ word) = with_letter letter
