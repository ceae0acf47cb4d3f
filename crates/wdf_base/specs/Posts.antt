-- A test of posts.
use Rattle.std.specs.Prelude.{Bool, true, false}
use Rattle.wdf_base.specs.declared.event.Post.{Post}
use Rattle.wdf_base.specs.declared.event.Post.TheVariants as post

-- the posts by which a request arrives: reads, writes and controls
abbrev pub is_request : Post → Bool
is_request (post.Read device length) = true
is_request (post.Write device length) = true
is_request (post.Control device code length) = true
is_request _ = false
