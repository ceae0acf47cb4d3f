pub mod MayDo
