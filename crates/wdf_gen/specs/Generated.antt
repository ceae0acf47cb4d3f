-- The generated scenario: two devices, each with a queue that completes what it gets, and four apps that read from them.
use Rattle.std.specs.Prelude.{ℕ, zero, suc, ◌+◌, ◌/◌, ◌%◌, ◌==◌, if◌then◌else◌, List, [], ◌∷◌, ◌++◌, None, codes, true}
use Rattle.rand_core.specs.Stream.{Stream, next_u64}
use Rattle.rand_core.specs.Steps.{stream_of}
use Rattle.rand_xoshiro.specs.SplitMix64.{splitmix_steps}
use Rattle.wdf_base.specs.declared.call.CallKind.TheVariants as call
use Rattle.wdf_base.specs.declared.call.Callback.TheVariants as callback
use Rattle.wdf_base.specs.declared.declared.DispatchKind.{DispatchKind}
use Rattle.wdf_base.specs.declared.declared.DispatchKind.TheVariants as dispatch
use Rattle.wdf_base.specs.declared.script.ContextWord.TheVariants as context
use Rattle.wdf_base.specs.declared.script.Operator.TheVariants as operator
use Rattle.wdf_base.specs.declared.value.Status.TheVariants as status
use Rattle.wdf_scene.specs.declared.line.SceneLine.{SceneLine}
use Rattle.wdf_scene.specs.declared.line.SceneLine.TheVariants as line
use Rattle.wdf_scene.specs.declared.line.StatementHead.TheVariants as head
use Rattle.wdf_scene.specs.declared.scene.Scene.{Scene}
use Rattle.wdf_scene.specs.Written.{Leaf, Node, Number, Context, Literal, Missing, Valued, Written, Plain, Single, Calling, WrittenLine, scene_of}

-- the next words of a stream, first to last
unfoldable pub words : ℕ → Stream → List ℕ
words zero s = []
words (suc k) s = (next_u64 s).0 ∷ words k (next_u64 s).1

-- the words that SplitMix64 gives from the seed n on, one for each of the 2,900 reads
unfoldable pub seed_words : ℕ → List ℕ
seed_words n = words 2900 (stream_of splitmix_steps n)

-- `let x = ( length + 1 )`
abbrev pub sum_line : Written
sum_line =
    Single (head.Let (codes "x")) (Node operator.Add (Leaf (Context context.RequestLength)) (Leaf (Number 1)))

-- `call WdfRequestComplete request SUCCESS`
abbrev pub completion_line : Written
completion_line =
    Calling call.WdfRequestComplete None (Valued (Context context.OwnRequest)) (Valued (Literal status.Success)) Missing

-- a working device whose queue completes each read
abbrev pub device_lines : List ℕ → List ℕ → DispatchKind → List Written
device_lines device queue dispatch =
    Plain (line.Device device true)
    ∷ Plain (line.Queue queue dispatch)
    ∷ Plain line.Default
    ∷ Plain (line.On callback.EvtIoRead)
    ∷ sum_line
    ∷ completion_line
    ∷ Plain line.End
    ∷ Plain line.End
    ∷ Plain line.End
    ∷ []

-- the device that a word names, by its lowest bit
abbrev pub device_named : ℕ → List ℕ
device_named w = if w % 2 == 0 then codes "E" else codes "F"

-- how much read k reads: nothing where k is a multiple of 29, else up to 4,096 bytes, by the other bits of its word
abbrev pub length_read : ℕ → ℕ → ℕ
length_read k w = if k % 29 == 0 then 0 else 1 + (w / 2) % 4096

-- the line of read k, which has this word
abbrev pub read_form : ℕ → ℕ → SceneLine
read_form k w = line.AtRead 0 (device_named w) (length_read k w)

-- read k as a line of app a: each app has each fourth read
abbrev pub read_lines : ℕ → ℕ → ℕ → List Written
read_lines a k w = if k % 4 == a then Plain (read_form k w) ∷ [] else []

-- the reads of app a from read k on, where all reads from there on have these words
unfoldable pub reads_from : ℕ → ℕ → List ℕ → List Written
reads_from a k [] = []
reads_from a k (w ∷ ws) = read_lines a k w ++ reads_from a (suc k) ws

-- an app with its reads
abbrev pub app_lines : List ℕ → ℕ → List ℕ → List Written
app_lines name a ws = Plain (line.App name) ∷ (reads_from a 0 ws ++ Plain line.End ∷ [])

-- the first three lines and the devices
abbrev pub head_lines : List Written
head_lines =
    Plain (line.Cpus 4)
    ∷ Plain (line.Limit 30000)
    ∷ Plain (line.Objects 16)
    ∷ (device_lines (codes "E") (codes "EQ") dispatch.Sequential ++ device_lines (codes "F") (codes "FQ") (dispatch.Parallel 4))

-- the whole text, where the reads have these words
abbrev pub text_lines : List ℕ → List Written
text_lines ws =
    head_lines ++ app_lines (codes "A0") 0 ws ++ app_lines (codes "A1") 1 ws ++ app_lines (codes "A2") 2 ws ++ app_lines (codes "A3") 3 ws

-- lines with their numbers in the text, the first of which is k
abbrev pub numbered : ℕ → List Written → List WrittenLine
numbered k [] = []
numbered k (w ∷ ws) = record { number = k; written = w } ∷ numbered (suc k) ws

-- the scene that a number gives
unfoldable pub generated : ℕ → Scene
generated n = scene_of 1 (numbered 1 (text_lines (seed_words n)))
