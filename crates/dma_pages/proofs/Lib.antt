pub mod PageLaws
mod ShapeLaws
