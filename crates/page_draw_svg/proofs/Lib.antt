pub mod Elements
pub mod SvgElements
