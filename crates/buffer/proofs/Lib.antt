-- Laws about bytes laid into a page.
pub mod Pages
