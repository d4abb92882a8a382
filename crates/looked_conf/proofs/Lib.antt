mod Conf
mod Known
mod Texts
