pub mod FenceLaws
