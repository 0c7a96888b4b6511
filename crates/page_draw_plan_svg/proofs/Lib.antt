pub mod LineLaws
mod SpanLaws
