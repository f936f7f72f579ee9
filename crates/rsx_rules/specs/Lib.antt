pub mod Turnstile
