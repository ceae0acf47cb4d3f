-- Tests of how far the deletion of an object has come.
use Rattle.std.specs.Prelude.{Bool, true, false}
use Rattle.wdf_base.specs.declared.object.Life.{Life}
use Rattle.wdf_base.specs.declared.object.Life.TheVariants as life

-- whether an object is there and its deletion wasn't asked
abbrev pub is_live : Life → Bool
is_live life.Live = true
is_live _ = false

-- whether the deletion of an object was asked, and its cleanup is still to come
abbrev pub is_asked : Life → Bool
is_asked life.Asked = true
is_asked _ = false

-- whether the cleanup of an object is done, and its end is still to come
abbrev pub is_cleaned : Life → Bool
is_cleaned life.Cleaned = true
is_cleaned _ = false

-- whether an object is destroyed, or never was
abbrev pub is_gone : Life → Bool
is_gone life.Gone = true
is_gone _ = false

-- whether the cleanup of an object is done, or the object is gone
abbrev pub is_past_cleanup : Life → Bool
is_past_cleanup life.Cleaned = true
is_past_cleanup life.Gone = true
is_past_cleanup _ = false
