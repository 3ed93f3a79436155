mod Entries
mod Forerunners
mod Outward
mod Places
